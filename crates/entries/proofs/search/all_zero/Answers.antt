-- Every word from a on is looked at.
use Rattle.std.proofs.Common.{rules, refl, ap, length, ◌∙◌}
use Rattle.std.specs.List.{between}
use Rattle.std.proofs.lemmas.Slice.{between_to_end}
use Rattle.std.proofs.lemmas.Iterator.{YieldsList-from_slice}
use Rattle.std.proofs.lemmas.Iterator.Search.{all_from_yields_List}
use borrow.Author.Tests.{tests}
use lib.Dec.{leb}
use native.Mathlib.Omega.{arith}
use Rattle.terms.specs.Choice.{all_at_most}
use Rattle.entries.proofs.Bounds.{all_by_test}
use Rattle.entries.proofs.search.all_zero.Goals as goal

pub returns : goal.returns
returns c =
    let w = c.args.dir.now in
    let l = between c.args.a (length w) w in
    all_from_yields_List (λ x. leb x 0) _ _ _ c.all.ensures.ran (YieldsList-from_slice l cc)
    (λ x b q called. search (rules, tests))
    ∙ all_by_test 0 (λ x. leb x 0) (λ x. refl) l
    ∙ ap (all_at_most 0) (between_to_end w c.args.a (length w) (omega arith))
