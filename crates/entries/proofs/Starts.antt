-- The words at which the lists start: their order, the distance to the next, and that all lie within the words in use.
-- Over the list's number, by cases.
use mathlib.Core.Path.{◌≡◌, refl}
use mathlib.Core.List.{List}
use Prim.Native.Nat.{ℕ, zero, suc, ◌+◌, ◌-◌, ◌*◌, ◌≤◌}
use native.Mathlib.Nat.{add-zero, add-suc}
use native.Mathlib.Omega.{arith}
use lib.ListN.{get_or}
use Rattle.figures.specs.Words.{used}
use Rattle.entries.specs.Stretches.{start_of}

module _ (w : List ℕ) where
  pub start_of_rest : (i : ℕ) → 4 ≤ i → start_of i w ≡ 8 + used w
  start_of_rest zero h = absurd (omega arith)
  start_of_rest (suc zero) h = absurd (omega arith)
  start_of_rest (suc (suc zero)) h = absurd (omega arith)
  start_of_rest (suc (suc (suc zero))) h = absurd (omega arith)
  start_of_rest (suc (suc (suc (suc i)))) h = refl

  grows : (i : ℕ) → start_of i w ≤ start_of (suc i) w
  grows zero = omega arith
  grows (suc zero) = omega arith
  grows (suc (suc zero)) = omega arith
  grows (suc (suc (suc zero))) = omega arith
  grows (suc (suc (suc (suc i)))) = omega arith

  grows_by : (i k : ℕ) → start_of i w ≤ start_of (i + k) w
  grows_by i zero = rw add-zero (omega arith)
  grows_by i (suc k) = rw add-suc (omega (arith, grows_by i k, grows (i + k)))

  pub starts_in_order : (i j : ℕ) → i ≤ j → start_of i w ≤ start_of j w
  starts_in_order i j h =
      let e : i + (j - i) ≡ j = omega arith in
      rw e at (grows_by i (j - i))

  pub starts_within : (i : ℕ) → start_of i w ≤ 8 + used w
  starts_within i = omega (arith, grows_by i 4, start_of_rest (i + 4) (omega arith))
