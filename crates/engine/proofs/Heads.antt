-- A list that is not empty is its head and the rest; so is one whose head has its bit set or goes on in CART's second
-- pass, since the head of an empty list has neither.
use mathlib.Core.Path.{◌≡◌, refl}
use mathlib.Core.Bool.{true, false≢true}
use mathlib.Core.List.{List, [], ◌∷◌}
use Prim.Native.Nat.{◌≤◌}
use native.Mathlib.Omega.{arith}
use Rattle.terms.specs.Choice.{∣◌∣}
use Rattle.figures.specs.Entry.{Entry, drop_head}
use Rattle.engine.specs.Heads.{front_of}
use Rattle.engine.specs.Passes.{goes_on}

pub some_front : (l : List Entry) → 1 ≤ ∣ l ∣ → l ≡ front_of l ∷ drop_head l
some_front [] some = absurd (omega arith)
some_front (e ∷ es) some = refl

pub set_front : (l : List Entry) → (front_of l).bit ≡ true → l ≡ front_of l ∷ drop_head l
set_front [] set = absurd (false≢true set)
set_front (e ∷ es) set = refl

pub goes_front : (l : List Entry) → goes_on (front_of l) ≡ true → l ≡ front_of l ∷ drop_head l
goes_front [] goes = absurd (false≢true goes)
goes_front (e ∷ es) goes = refl
