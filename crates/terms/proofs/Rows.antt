-- Numbers in a row: how many they are, which stands at a place, and one more behind them.
use mathlib.Core.Path.{◌≡◌, refl, sym, ap, ◌∙◌}
use mathlib.Core.List.{[], ◌∷◌, ◌++◌}
use Prim.Native.Nat.{ℕ, zero, suc, ◌+◌, ◌<◌}
use native.Mathlib.Numerals.{add-one}
use native.Mathlib.Omega.{arith}
use lib.ListN.{get_or}
use Rattle.terms.specs.Choice.{∣◌∣, numbers_from}

pub numbers_length : (x n : ℕ) → ∣ numbers_from x n ∣ ≡ n
numbers_length x zero = refl
numbers_length x (suc n) = ap suc (numbers_length (suc x) n)

pub numbers_at : (x n i : ℕ) → i < n → get_or (numbers_from x n) i 0 ≡ x + i
numbers_at x zero i inside = absurd (omega arith)
numbers_at x (suc n) zero inside = omega arith
numbers_at x (suc n) (suc i) inside = omega (arith, numbers_at (suc x) n i (omega arith))

pub numbers_more : (x n last : ℕ) → last ≡ x + n → numbers_from x (n + 1) ≡ numbers_from x n ++ (last ∷ [])
numbers_more x n last is =
    ap (numbers_from x) (add-one n) ∙ go x n ∙ ap (λ (y : ℕ). numbers_from x n ++ (y ∷ [])) (sym is)
  where
    go : (x n : ℕ) → numbers_from x (suc n) ≡ numbers_from x n ++ ((x + n) ∷ [])
    go x zero = let only : x ≡ x + 0 = omega arith in ap (λ (y : ℕ). y ∷ []) only
    go x (suc n) =
        let next : suc x + n ≡ x + suc n = omega arith in
        ap (λ l. x ∷ l) (go (suc x) n ∙ ap (λ (y : ℕ). numbers_from (suc x) n ++ (y ∷ [])) next)
