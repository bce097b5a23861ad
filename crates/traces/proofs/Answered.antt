-- The answer of the reader: 6, then 7, then by the lines; and a refused call leaves the buffer as it was.
use mathlib.Core.Path.{◌≡◌, refl, ap, ◌∙◌}
use mathlib.Core.List.{List}
use Prim.Native.Nat.{ℕ, ◌≤◌, ◌<◌}
use native.Mathlib.Omega.{arith}
use borrow.Author.Tests.{ltb-true, ltb-false}
use borrow.Table.Steps.{cases}
use Rattle.terms.specs.Choice.{∣◌∣}
use Rattle.terms.proofs.Choice.{by_test}
use Rattle.traces.specs.Trace.{Pages, taken, refused_at, too_long, pages_of}
use Rattle.traces.specs.Refusals.{Taken, answer, too_short, on_pages}
use Rattle.traces.specs.Demands.{AllAnsweredInOrder}
use Rattle.traces.proofs.Exactly.{by_lines}

module _ (file : List ℕ) (unit : ℕ) (buffer : List ℕ) where
  by_six : ∣ buffer ∣ < 1000 → on_pages file unit buffer ≡ answer (refused_at 6 0) buffer
  unfolding on_pages
  by_six short = cases (too_short buffer) (λ is. rw is) (λ isnt. absurd (omega (arith, ltb-false)))

  by_trace : 1000 ≤ ∣ buffer ∣ → on_pages file unit buffer ≡ answer (pages_of unit file) buffer
  unfolding on_pages
  by_trace room = cases (too_short buffer) (λ is. absurd (omega (arith, ltb-true))) (λ isnt. rw isnt)

  by_seven : 16000 < ∣ file ∣ → pages_of unit file ≡ refused_at 7 0
  unfolding pages_of
  by_seven long = cases (too_long file) (λ is. rw is) (λ isnt. absurd (omega (arith, ltb-false)))

  -- An answer that is refused has the buffer itself.
  abbrev Stays : Taken → Type 0
  Stays t = (t.number ≡ 0 → ⊥) → t.pages ≡ buffer

  refused_stays : (ps : Pages) → Stays (answer ps buffer)
  refused_stays (taken pages) some = absurd (some refl)
  refused_stays (refused_at number line) some = refl

pub answered_in_order : AllAnsweredInOrder
unfolding on_pages
answered_in_order file unit buffer =
    let trace = by_trace file unit buffer in
    record {
      first_six = by_six file unit buffer;
      then_seven = λ room long. trace room ∙ ap (λ ps. answer ps buffer) (by_seven file unit buffer long);
      then_lines = λ room short. trace room ∙ ap (λ ps. answer ps buffer) (by_lines unit file short);
      refused_stays =
          by_test (Stays file unit buffer) (too_short buffer)
          (λ is. refused_stays file unit buffer (refused_at 6 0))
          (λ isnt. refused_stays file unit buffer (pages_of unit file));
    }
