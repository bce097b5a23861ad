-- What the kind that a page comes back with says: whether it was in a history, in which, and what the words hold then.
-- For the callers of returning::come_back, which go on by the kind.
use mathlib.Core.Path.{◌≡◌, refl}
use mathlib.Core.Bool.{true, false}
use mathlib.Core.List.{List}
use Prim.Native.Nat.{ℕ}
use Rattle.figures.specs.Entry.{Entry, has}
use Rattle.figures.specs.Directory.{Directory, Name}
use Rattle.figures.specs.Hand.{Hand}
use Rattle.figures.specs.Policy.{Policy}
use Rattle.engine.specs.declared.kinds.Kind.{Kind}
use Rattle.engine.specs.Shown.{PlacedAs}
use Rattle.engine.proofs.Placed.{placed_b1, placed_b2}
use Rattle.entries.specs.Holds.{Holds}
use Rattle.entries.specs.Returning.{returned_from_b1, returned_from_b2, Returned, from-b1, from-b2, is_new}

module _ {d : Directory} {x : ℕ} {e : Entry} {t : Name} {m n : ℕ} {w w' : List ℕ} where
  pub was_new : {kind : Kind} → Returned d x e t m n w w' kind → kind ≡ Kind.New
      → (has x d.b1 ≡ false) × (has x d.b2 ≡ false) × (w' ≡ w)
  was_new (from-b1 found holds) is = absurd cc
  was_new (from-b2 not-b1 found holds) is = absurd cc
  was_new (is_new not-b1 not-b2 same) is = (not-b1, not-b2, same)

  pub was_in_b2 : {kind : Kind} → Returned d x e t m n w w' kind → kind ≡ Kind.FromB2
      → (has x d.b1 ≡ false) × (has x d.b2 ≡ true) × Holds (returned_from_b2 d x e t n) w'
  was_in_b2 (from-b1 found holds) is = absurd cc
  was_in_b2 (from-b2 not-b1 found holds) is = (not-b1, found, holds)
  was_in_b2 (is_new not-b1 not-b2 same) is = absurd cc

  pub was_in_b1 : {kind : Kind} → Returned d x e t m n w w' kind → (kind ≡ Kind.New → ⊥) → (kind ≡ Kind.FromB2 → ⊥)
      → (kind ≡ Kind.FromB1) × (has x d.b1 ≡ true) × Holds (returned_from_b1 d x e t m) w'
  was_in_b1 (from-b1 found holds) not_new not-4 = (refl, found, holds)
  was_in_b1 (from-b2 not-b1 found holds) not_new not-4 = absurd (not-4 refl)
  was_in_b1 (is_new not-b1 not-b2 same) not_new not-4 = absurd (not_new refl)

-- A page that is not new is placed where the policy does nothing more.
module _ (π : Policy) (x : ℕ) (h : Hand) {e : Entry} {t : Name} {m n : ℕ} {w w' : List ℕ}
    (b1 : π.place_b1 x h ≡ returned_from_b1 h.dir x e t m)
    (b2 : π.place_b2 x h ≡ returned_from_b2 h.dir x e t n) where
  pub placed_back : {kind : Kind} → Returned h.dir x e t m n w w' kind → (kind ≡ Kind.New → ⊥) → PlacedAs Holds π x h kind w'
  placed_back (from-b1 found holds) not_new = placed_b1 Holds π x h found (rw b1 holds)
  placed_back (from-b2 not-b1 found holds) not_new = placed_b2 Holds π x h not-b1 found (rw b2 holds)
  placed_back (is_new not-b1 not-b2 same) not_new = absurd (not_new refl)
