-- What holds of a choice by a test, from what holds on each side of it.
use Rattle.std.specs.Prelude.{if◌then◌else◌}
use mathlib.Core.Path.{◌≡◌, refl}
use mathlib.Core.Bool.{Bool, true, false, ◌||◌}

-- What each outcome of a test gives holds of the choice by it; of a choice by two tests, likewise.
pub by_test : {A : Type 0} (P : A → Type 0) (b : Bool) {x y : A}
    → (b ≡ true → P x) → (b ≡ false → P y) → P (if b then x else y)
by_test P true p q = p refl
by_test P false p q = q refl

pub by_tests : {A : Type 0} (P : A → Type 0) (b c : Bool) {x y : A}
    → (b ≡ true → P x) → (c ≡ true → P x) → (b ≡ false → c ≡ false → P y) → P (if b || c then x else y)
by_tests P true c p q r = p refl
by_tests P false c p q r = by_test P c q (r refl)

-- What holds of both holds of the choice.
pub either : {A : Type 0} (P : A → Type 0) (b : Bool) {x y : A} → P x → P y → P (if b then x else y)
either P b p q = by_test P b (λ test. p) (λ test. q)
