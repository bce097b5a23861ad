-- Digits by the library's test, and read on from a place, as a loop does; and what they come to at least and at most.
use Rattle.std.specs.Char.{is_ascii_digit}
use Rattle.std.specs.List.{list_all, AllPass}
use Rattle.std.specs.Prelude.{IsTrue, ◌↔◌}
use Rattle.std.proofs.lemmas.List.Sums.{list_all-from_AllPass, AllPass-from_list_all}
use mathlib.Core.Path.{◌≡◌, refl, ap, sym, ◌∙◌}
use mathlib.Core.Bool.{Bool, true}
use lib.Dec.{leb}
use mathlib.Core.List.{List, [], ◌∷◌}
use Prim.Native.Nat.{ℕ, suc, ◌+◌, ◌-◌, ◌*◌, ◌^◌, ◌≤◌, ◌<◌}
use native.Mathlib.Omega.{arith}
use native.Mathlib.Nat.{pow-le-pow_right}
use lib.ListN.{get_or, drop}
use Rattle.terms.specs.Choice.{∣◌∣}
use Rattle.terms.proofs.Tests.{reads, agree}
use Rattle.text.specs.Digits.{zero_digit, all_digits, value_after, value}
use Rattle.text.proofs.Text.{from_place, both-is}

-- ALL OF THEM

all_digits-list_all : (s : List ℕ) → all_digits s ≡ list_all is_ascii_digit s
all_digits-list_all [] = refl
all_digits-list_all (b ∷ s) =
    rw (all_digits-list_all s, both-is (is_ascii_digit b), both-is (leb zero_digit b) (leb b (zero_digit + 9)))

pub all_pass : (r : Bool) (s : List ℕ) → (IsTrue r ↔ AllPass is_ascii_digit s) → r ≡ all_digits s
all_pass r s each =
    agree r (all_digits s)
    (λ is. all_digits-list_all s ∙ list_all-from_AllPass is_ascii_digit s (each.0 is))
    (λ all. each.1 (AllPass-from_list_all is_ascii_digit s (sym (all_digits-list_all s) ∙ all)))

-- A LOOP OVER DIGITS

pub value-from : (s : List ℕ) (i : ℕ) → i < ∣ s ∣ → (n : ℕ)
    → value_after n (drop i s) ≡ value_after (10 * n + (get_or s i 0 - zero_digit)) (drop (i + 1) s)
value-from s i inside n = ap (value_after n) (from_place s i inside)

-- HOW MUCH DIGITS ARE WORTH

-- A number that was read before is never above what it comes to with the digits behind it.
pub value_grows : (n : ℕ) (s : List ℕ) → n ≤ value_after n s
value_grows n [] = omega arith
value_grows n (b ∷ s) = let h = value_grows (10 * n + (b - zero_digit)) s in omega arith

-- Behind a number of at most j digits.
value_after_below : (j k n : ℕ) (s : List ℕ) → j + ∣ s ∣ ≤ k → n < 10 ^ j → all_digits s ≡ true → value_after n s < 10 ^ k
value_after_below j k n [] room small all =
    omega (arith, pow-le-pow_right {n = 10} (omega arith) {i = j} {j = k} (omega arith))
value_after_below j k n (b ∷ s) room small all =
    let said = simp reads at all in
    value_after_below (suc j) k (10 * n + (b - zero_digit)) s (omega arith) (omega arith) said.1

-- At most k digits are worth less than 10 ^ k.
pub value_below : (k : ℕ) (s : List ℕ) → ∣ s ∣ ≤ k → all_digits s ≡ true → value s < 10 ^ k
value_below k s room all = value_after_below 0 k 0 s (omega arith) (omega arith) all
