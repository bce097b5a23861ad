-- The one way to go through the policies: what holds of each number holds of every known one.
use mathlib.Core.Path.{◌≡◌, refl, sym, subst}
use mathlib.Core.Bool.{Bool, true, false, ◌||◌, false≢true}
use mathlib.Core.List.{List, [], ◌∷◌}
use Prim.Native.Nat.{ℕ}
use lib.Dec.{eqb}
use borrow.Author.Tests.{eqb-true}
use Rattle.terms.specs.Policies.{Named, car, cart, fifo, clock, lru, policies, has_number, known_policy}

-- P holds of the number of each policy of the list.
abbrev OfEach {ℓ} : (ℕ → Type ℓ) → List Named → Type ℓ
OfEach P [] = Unit
OfEach P (p ∷ l) = P p.number × OfEach P l

of-listed {ℓ} : (P : ℕ → Type ℓ) (l : List Named) → OfEach P l → (n : ℕ) → has_number n l ≡ true → P n
of-listed P [] each n listed = absurd (false≢true listed)
of-listed P (p ∷ l) each n listed =
    go (eqb n p.number) listed (eqb-true n p.number) (of-listed P l each.1 n)
  where
    go : (here : Bool) → here || has_number n l ≡ true → (here ≡ true → n ≡ p.number) → (has_number n l ≡ true → P n)
        → P n
    go true listed is later = subst P (sym (is refl)) each.0
    go false listed is later = later listed

pub by-policy {ℓ} : (P : ℕ → Type ℓ) → P car → P cart → P fifo → P clock → P lru
    → (n : ℕ) → known_policy n ≡ true → P n
by-policy P of_car of_cart of_fifo of_clock of_lru =
    of-listed P policies (of_car, (of_cart, (of_fifo, (of_clock, (of_lru, tt)))))
