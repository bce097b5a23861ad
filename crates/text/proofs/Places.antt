-- Where a byte first stands, by the library's search.
use Rattle.std.specs.Prelude.{◌≢◌, cond, Option, Some, None, MatchOption, All, slice_index}
use mathlib.Core.Path.{◌≡◌, refl, sym, ◌∙◌}
use mathlib.Core.Bool.{Bool, true, false}
use mathlib.Core.List.{List}
use Prim.Native.Nat.{ℕ, ◌+◌, ◌≤◌, ◌<◌}
use native.Mathlib.Omega.{arith}
use lib.Dec.{eqb}
use Rattle.std.proofs.lemmas.List.Recursion.{is_position_or_len}
use Rattle.std.proofs.lemmas.List.Sums.{position_or_len_is}
use borrow.Author.Tests.{eq-eqb, ne_eqb}
use Rattle.terms.specs.Choice.{∣◌∣}
use Rattle.text.specs.Bytes.{index_after, index_of, FoundAt}

-- At the place stands the byte, and at none before; with no place, the byte is none of them.
abbrev pub FirstAt : ℕ → List ℕ → Option ℕ → Type 0
FirstAt x s r =
    MatchOption r (All (λ b. b ≢ x) s)
    (λ n. (n < ∣ s ∣) × (slice_index s n ≡ x) × ((k : ℕ) → k < n → slice_index s k ≢ x))

module _ (x : ℕ) (s : List ℕ) where
  by_test : (t : Bool) (n : ℕ) → index_after t n ≡ cond t 0 (1 + n)
  by_test true n = refl
  by_test false n = omega arith

  is_first : (n : ℕ) → n ≤ ∣ s ∣ → ((k : ℕ) → k < n → slice_index s k ≢ x) → (n < ∣ s ∣ → slice_index s n ≡ x) → index_of x s ≡ n
  unfolding index_of
  is_first n within before here =
      is_position_or_len (index_of x) (λ b. eqb b x) refl (λ b s. by_test (eqb b x) (index_of x s)) s
      ∙ position_or_len_is (λ b. eqb b x) s n 0 within
      (λ k h. ne_eqb _ _ (before k h)) (λ h. eq-eqb _ _ (here h))

  pub first_found : (r : Option ℕ) → FirstAt x s r → FoundAt x s r
  first_found None none = is_first ∣ s ∣ (omega arith) (λ k h. none k 0 h) (λ h. absurd (omega arith))
  first_found (Some n) (inside, here, before) =
      (sym (is_first n (omega arith) before (λ h. here)), inside)
