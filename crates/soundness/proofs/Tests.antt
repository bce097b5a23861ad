-- A test's value from what its truth would mean.
-- For the functions that answer by `&&`.
use mathlib.Core.Path.{◌≡◌, refl, sym, ◌∙◌}
use mathlib.Core.Bool.{Bool, true, false, true≢false}
use mathlib.Core.List.{[], ◌∷◌}
use Rattle.terms.specs.Choice.{every}

-- A test that cannot hold fails.
pub fails : (b : Bool) → (b ≡ true → ⊥) → false ≡ b
fails true h = absurd (h refl)
fails false h = refl

-- No test both fails and holds.
pub never : {b : Bool} → b ≡ false → b ≡ true → ⊥
never fails_there holds_there = true≢false (sym holds_there ∙ fails_there)

-- A list of one test.
pub alone : (b : Bool) → b ≡ every (b ∷ [])
alone true = refl
alone false = refl

-- A test that holds only where another does fails with it.
pub denied : {a b : Bool} → (a ≡ true → b ≡ true) → b ≡ false → false ≡ a
denied {a} h not = fails a (λ is. true≢false (sym (h is) ∙ not))
