-- Looks one after another: from where one has led to, the next go on.
use mathlib.Core.List.{List}
use Prim.Native.Nat.{ℕ, ◌-◌, ◌≤◌}
use native.Mathlib.Omega.{arith}
use Rattle.std.specs.declared.ops.ControlFlow.{ControlFlow}
use Rattle.std.specs.declared.ops.ControlFlow.TheVariants.{Break, Continue}
use Rattle.engine.specs.declared.Hand.{Hand}
use Rattle.engine.specs.declared.Evicted.{Evicted}
use Rattle.engine.specs.Choosing.{Turning}
use Rattle.engine.specs.Shown.{turned_once}
use Rattle.entries.specs.Holds.{Holds}
use Rattle.car.specs.Looking.{GoesOn, LooksFrom}

-- No look has been made yet.
pub goes_on_here : {w : List ℕ} {k : Hand} → Turning Holds w k → GoesOn w k w k
goes_on_here t = record { turning = t; rest = λ ends. ends }

pub goes_on_after : {w w₁ w₂ : List ℕ} {k k₁ k₂ : Hand} → GoesOn w k w₁ k₁ → GoesOn w₁ k₁ w₂ k₂ → GoesOn w k w₂ k₂
goes_on_after first then = record { turning = then.turning; rest = λ ends. first.rest (then.rest ends) }

-- A look at a set bit, and the looks that were left then.
pub looks_after : {w w₁ : List ℕ} {k : Hand} {left : ℕ} → 1 ≤ left → GoesOn w k w₁ (turned_once k)
    → (r : ControlFlow Evicted Hand) (w₂ : List ℕ) → LooksFrom (left - 1) w₁ (turned_once k) r w₂ → LooksFrom left w k r w₂
looks_after some first (Break out) w₂ then = (first.rest then.0, omega (arith, then.1))
looks_after some first (Continue k') w₂ then = (goes_on_after first then.0, omega (arith, then.1))
