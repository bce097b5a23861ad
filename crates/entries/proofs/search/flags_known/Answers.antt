-- The word that is read at place i is that of entry i's flags.
use Rattle.std.proofs.Common.{rules, arith, refl, ap, sym, ◌∙◌, ◌+◌, ◌*◌}
use Rattle.std.proofs.lemmas.Iterator.{YieldsList-from_range}
use Rattle.std.proofs.lemmas.Iterator.Search.{all_from_yields_List}
use borrow.Author.Tests.{tests}
use lib.Dec.{leb}
use lib.ListN.{get_or}
use Rattle.figures.specs.Words.{most_flags}
use Rattle.entries.proofs.Bounds.{all_by_place, flags_of, length_flags, flag_at}
use Rattle.entries.proofs.search.flags_known.Goals as goal

pub returns : goal.returns
returns c =
    let w = c.args.dir.now in
    let n = c.args.n in
    let many = length_flags n w (omega arith) in
    all_from_yields_List (λ i. leb (get_or w (8 + 2 * i + 1) 0) most_flags) _ _ _ c.all.ensures.ran
    (YieldsList-from_range 0 n n refl (omega arith)) (λ i b q called. search (rules, tests))
    ∙ all_by_place most_flags (flags_of n w) _
    (λ i inside. ap (λ x. leb x most_flags) (sym (flag_at n w i (omega arith)))) 0 n (omega arith)
