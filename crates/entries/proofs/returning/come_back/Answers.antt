-- What `find` says of B1 and B2 decides where the page was.
-- The new target stands before the page moves, as in the figures.
use Rattle.std.proofs.Common.{ℕ, ap, refl, ◌∙◌}
use Rattle.figures.specs.Directory.{with_p}
use Rattle.entries.specs.Targets.{raised_target, lowered_target}
use Rattle.entries.specs.Returning.{from-b1, from-b2, is_new}
use Rattle.entries.proofs.Laid.{with-p}
use Rattle.entries.proofs.returning.come_back.Goals as goal

pub returns-in-Some : goal.returns-in-Some
returns-in-Some c d e m n is page new b1 b2 =
    let found = c.in-Some.ensures.1 d is in
    let target = with-p d is (c.raised.ensures d is ∙ ap (λ (k : ℕ). raised_target k d) b1) in
    from-b1 found.0 (c.come_back.ensures (with_p (raised_target m d) d) e target found.1 page new)

pub returns-in-Some-find : goal.returns-in-Some-find
returns-in-Some-find c d e m n is page new b1 b2 =
    let found = c.in-Some-find.ensures.1 d is in
    let target = with-p d is (c.lowered.ensures d is ∙ ap (λ (k : ℕ). lowered_target k d) b2) in
    from-b2
    (c.in_default.ensures d is)
    found.0
    (c.come_back-in-Some-find.ensures (with_p (lowered_target n d) d) e target found.1 page new)

pub returns : goal.returns
returns c d e m n is page new b1 b2 = is_new (c.in_default.ensures d is) (c.in_default-find.ensures d is) refl
