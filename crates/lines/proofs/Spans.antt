-- Where the value of a line stands: in the line at a place, in a line further on, or nowhere.
use Rattle.std.specs.Prelude.{Result, Err}
use mathlib.Core.Path.{◌≡◌, refl, ap, ◌∙◌}
use mathlib.Core.List.{List}
use Prim.Native.Nat.{ℕ, zero, suc, ◌+◌, ◌-◌, ◌≤◌, ◌<◌}
use native.Mathlib.Omega.{arith}
use lib.ListN.{take, drop}
use borrow.Author.Tests.{lt-ltb, le-ltb}
use Rattle.terms.specs.Choice.{∣◌∣}
use Rattle.terms.specs.declared.refusals.Refusal.{Refusal}
use Rattle.text.proofs.Text.{part_length}
use Rattle.sheets.specs.Lines.{lines}
use Rattle.sheets.specs.LookUp.{Place, nowhere, value_in, value_of}
use Rattle.sheets.specs.Refusals.{found_at, on_look_up}
use Rattle.lines.specs.Cursor.{SpanOf}
use Rattle.lines.specs.declared.Span.{Span}
use Rattle.lines.proofs.Cursor.{ClosedAt, MissingAt, ended, not_closed}

-- THE LINES FROM A PLACE ON

abbrev pub value_from : List ℕ → ℕ → ℕ → Place
value_from s at n = value_of at n (lines (drop at s))

module _ {s : List ℕ} {at stop : ℕ} (closed : ClosedAt s at stop) where
  pub in_this_line : value_from s at 1 ≡ value_in at (take (stop - at) (drop at s))
  in_this_line = ap (value_of at 1) closed.reads

  pub in_a_later_line : (n : ℕ) → value_from s at (suc (suc n)) ≡ value_from s (stop + 1) (suc n)
  in_a_later_line n =
      let l = take (stop - at) (drop at s) in
      let part = part_length at stop s (omega (arith, closed.inside)) in
      let width : at + ∣ l ∣ ≡ stop = omega (arith, closed.from) in
      ap (value_of at (suc (suc n))) closed.reads
      ∙ ap (λ (m : ℕ). value_of (m + 1) (suc n) (lines (drop (stop + 1) s))) width

pub in_no_line : {s : List ℕ} {at : ℕ} → MissingAt s at → (n : ℕ) → value_from s at n ≡ nowhere
in_no_line h zero = refl
in_no_line {at = at} (ended past is) (suc n) = ap (value_of at (suc n)) is
in_no_line {at = at} (not_closed some is) (suc n) = ap (value_of at (suc n)) is

-- SPANS

pub span_nowhere : (s : List ℕ) {p : Place} → p ≡ nowhere → SpanOf s (found_at p) (Err Refusal.NoSuchLine)
span_nowhere s is = rw is (record { number_is = refl; span_is = (refl, refl) })

-- "Look-up: 7, then 8"
module _ (s : List ℕ) (line : ℕ) where
  pub too_long : 16000 < ∣ s ∣ → SpanOf s (on_look_up s line) (Err Refusal.SheetTooLong)
  unfolding on_look_up
  too_long h = rw (lt-ltb 16000 ∣ s ∣ h) (record { number_is = refl; span_is = (refl, refl) })

  pub looked_up : {p : Place} {r : Result Span Refusal} → ∣ s ∣ ≤ 16000 → value_from s 0 line ≡ p → SpanOf s (found_at p) r
      → SpanOf s (on_look_up s line) r
  unfolding on_look_up
  looked_up h is span = rw (le-ltb 16000 ∣ s ∣ h, is) span
