-- The forms of numbers on a sheet: digits in form, whole numbers, miss costs; what a reader of numbers wants.
use Rattle.std.specs.Prelude.{if◌then◌else◌}
use mathlib.Core.Path.{◌≡◌, refl, sym, ap, ◌∙◌}
use mathlib.Core.Bool.{Bool, true, false}
use mathlib.Core.List.{List}
use Prim.Native.Nat.{ℕ, ◌+◌, ◌-◌, ◌*◌, ◌^◌, ◌≤◌, ◌<◌}
use native.Mathlib.Omega.{arith}
use lib.ListN.{take, drop, length-drop}
use lib.Seq.{take_all}
use borrow.Author.Tests.{le-leb, lt-leb}
use Rattle.terms.specs.Choice.{∣◌∣}
use Rattle.terms.specs.Refusals.{not_in_form}
use Rattle.terms.proofs.Choice.{by_test, either}
use Rattle.terms.proofs.Tests.{reads}
use Rattle.text.specs.Bytes.{index_of}
use Rattle.text.specs.Digits.{all_digits, value}
use Rattle.sheets.specs.Number.{means, wrong, comma}
use Rattle.sheets.specs.Number.{no_leading_zero, digits_form, whole, before_comma, after_comma, cost_form, miss_cost}
use Rattle.text.proofs.Worth.{value_below}

-- Four digits in thousands and three behind them.
pub thousandths_below : (before after : List ℕ) → (all_digits before ≡ true) × (∣ before ∣ ≤ 4)
    → (all_digits after ≡ true) × (∣ after ∣ ≤ 3) → 1000 * value before + value after < 10 ^ 7
thousandths_below before after four three =
    omega (arith, value_below 4 before four.1 four.0, value_below 3 after three.1 three.0)

-- THE FORM

pub record InForm (most : ℕ) (s : List ℕ) : Type 0 where
  pub some : 1 ≤ ∣ s ∣
  pub at_most : ∣ s ∣ ≤ most
  pub digits : all_digits s ≡ true
  pub no-leading-zero : no_leading_zero s ≡ true

pub in-form : (most : ℕ) (s : List ℕ) → digits_form most s ≡ true → InForm most s
unfolding digits_form
in-form most s h =
    let said = simp reads at h in
    record { some = omega arith; at_most = omega arith; digits = search; no-leading-zero = search }

pub not-in-form : (most : ℕ) (s : List ℕ) → (InForm most s → ⊥) → digits_form most s ≡ false
not-in-form most s isnt = go (digits_form most s) refl
  where
    go : (b : Bool) → digits_form most s ≡ b → digits_form most s ≡ false
    go true h = absurd (isnt (in-form most s h))
    go false h = h

-- Of so many digits only the leading zero is to be asked.
pub zero_decides : (most : ℕ) (s : List ℕ) → 1 ≤ ∣ s ∣ → ∣ s ∣ ≤ most → all_digits s ≡ true
    → digits_form most s ≡ no_leading_zero s
unfolding digits_form
zero_decides most s some few all = rw (le-leb 1 ∣ s ∣ some, le-leb ∣ s ∣ most few, all, alone (no_leading_zero s))
  where
    alone : (b : Bool) → (if b then true else false) ≡ b
    alone true = refl
    alone false = refl

-- WHOLE NUMBERS

module _ (s : List ℕ) where
  pub whole_is : digits_form 10 s ≡ true → value s ≤ 4294967295 → whole s ≡ means (value s)
  unfolding whole
  whole_is form small = rw (form, le-leb (value s) 4294967295 small)

  pub whole_not_in_form : digits_form 10 s ≡ false → whole s ≡ wrong not_in_form
  unfolding whole
  whole_not_in_form form = rw form

  pub whole_too_large : 4294967295 < value s → whole s ≡ wrong not_in_form
  unfolding whole
  whole_too_large large =
      either
      (λ t. (if t then means (value s) else wrong not_in_form) ≡ wrong not_in_form)
      (digits_form 10 s)
      (rw (lt-leb (value s) 4294967295 large))
      refl

-- MISS COSTS

pub record IsCost (s : List ℕ) : Type 0 where
  pub before : digits_form 4 (before_comma s) ≡ true
  pub three : ∣ after_comma s ∣ ≡ 3
  pub after : all_digits (after_comma s) ≡ true

module _ (s : List ℕ) where
  pub is_cost : cost_form s ≡ true → IsCost s
  is_cost h = let said = simp reads at h in record { before = search; three = search; after = search }

  pub cost_is : IsCost s → miss_cost s ≡ means (1000 * value (before_comma s) + value (after_comma s))
  unfolding miss_cost
  cost_is h = rw (h.before, h.three, h.after)

  pub no_cost : (IsCost s → ⊥) → miss_cost s ≡ wrong not_in_form
  unfolding miss_cost
  no_cost isnt = by_test (λ v. v ≡ wrong not_in_form) (cost_form s) (λ h. absurd (isnt (is_cost h))) (λ h. refl)

  pub cost_below : IsCost s → 1000 * value (before_comma s) + value (after_comma s) < 10 ^ 7
  cost_below h =
      let form = in-form 4 (before_comma s) h.before in
      let three : ∣ after_comma s ∣ ≤ 3 = omega (arith, h.three) in
      thousandths_below (before_comma s) (after_comma s) (form.digits, form.at_most) (h.after, three)

-- The two parts, cut at the place n of the comma; the second by its length, as a slice's end is.
module _ (s : List ℕ) (n : ℕ) (place : n ≡ index_of comma s) where
  abbrev pub behind : List ℕ
  behind = take (∣ s ∣ - (n + 1)) (drop (n + 1) s)

  before_is : take n s ≡ before_comma s
  before_is = ap (λ (k : ℕ). take k s) place

  after_is : behind ≡ after_comma s
  after_is =
      take_all (∣ s ∣ - (n + 1)) (drop (n + 1) s) (omega (arith, length-drop (n + 1) s))
      ∙ ap (λ (k : ℕ). drop (k + 1) s) place

  pub three_after : IsCost s → ∣ s ∣ ≡ n + 4
  three_after h = omega (arith, h.three, length-drop (index_of comma s + 1) s)

  pub cost_in_parts : IsCost s → (digits_form 4 (take n s) ≡ true) × (all_digits behind ≡ true)
  cost_in_parts h = (ap (digits_form 4) before_is ∙ h.before, ap all_digits after_is ∙ h.after)

  pub cost_from_parts : ∣ s ∣ ≡ n + 4 → digits_form 4 (take n s) ≡ true → all_digits behind ≡ true
      → miss_cost s ≡ means (1000 * value (take n s) + value behind)
  cost_from_parts long form all = cost_is s is ∙ rw (before_is, after_is)
    where
      is : IsCost s
      is = record {
        before = ap (digits_form 4) (sym before_is) ∙ form;
        three = omega (arith, length-drop (index_of comma s + 1) s);
        after = ap all_digits (sym after_is) ∙ all;
      }
