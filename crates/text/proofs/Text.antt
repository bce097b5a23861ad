-- Bytes from a place on and up to another; a key in front of bytes, and two texts that are the same, by the library's
-- tests.
use Rattle.std.specs.Prelude.{if◌then◌else◌}
use mathlib.Core.Path.{◌≡◌, refl, sym, ap₂}
use mathlib.Core.Bool.{Bool, true, false, false≢true, ◌&&◌}
use mathlib.Core.List.{List, [], ◌∷◌, ◌++◌}
use Prim.Native.Nat.{ℕ, ◌+◌, ◌-◌, ◌≤◌, ◌<◌}
use native.Mathlib.Numerals.{add-one}
use native.Mathlib.Omega.{arith}
use lib.ListN.{get_or, take, drop, length-drop}
use lib.Seq.{drop-cons, length-take-le}
use lib.Dec.{eqb}
use lib.Pointwise.{pointwise}
use borrow.Author.Tests.{eq-eqb, eqb-true}
use Rattle.std.specs.List.{starts_with}
use Rattle.terms.specs.Choice.{∣◌∣, same}
use Rattle.terms.proofs.Tests.{reads, agree}
use Rattle.text.specs.Text.{starts}

-- PARTS

-- From a place inside: the byte there, then those from the next place.
pub from_place : (s : List ℕ) (i : ℕ) → i < ∣ s ∣ → drop i s ≡ get_or s i 0 ∷ drop (i + 1) s
from_place s i inside = rw (add-one, drop-cons s i 0 inside)

pub part_length : (from to : ℕ) (s : List ℕ) → to ≤ ∣ s ∣ → ∣ take (to - from) (drop from s) ∣ ≡ to - from
part_length from to s inside = length-take-le (to - from) (drop from s) (omega (arith, length-drop from s))

-- TESTS AS THE LIBRARY HAS THEM

pub both-is : (a b : Bool) → (a && b) ≡ (if a then b else false)
both-is true b = refl
both-is false b = refl

-- A KEY IN FRONT

eqb_turned : (a b : ℕ) → eqb a b ≡ eqb b a
eqb_turned a b =
    agree (eqb a b) (eqb b a) (λ is. eq-eqb b a (sym (eqb-true a b is))) (λ is. eq-eqb a b (sym (eqb-true b a is)))

pub starts_with-is : (key s : List ℕ) → starts_with eqb s key ≡ starts key s
starts_with-is [] s = refl
starts_with-is (k ∷ key) [] = refl
starts_with-is (k ∷ key) (b ∷ s) =
    rw (starts_with-is key s, eqb_turned k b) (both-is (eqb b k) (starts key s))

pub starts_fits : (key s : List ℕ) → starts key s ≡ true → ∣ key ∣ ≤ ∣ s ∣
starts_fits [] s is = omega arith
starts_fits (k ∷ key) [] is = absurd (false≢true is)
starts_fits (k ∷ key) (b ∷ s) is = let both = simp reads at is in omega (arith, starts_fits key s both.1)

-- The key, and the bytes behind it.
pub starts_splits : (key s : List ℕ) → starts key s ≡ true → s ≡ key ++ drop ∣ key ∣ s
starts_splits [] s is = refl
starts_splits (k ∷ key) [] is = absurd (false≢true is)
starts_splits (k ∷ key) (b ∷ s) is = let both = simp reads at is in ap₂ ◌∷◌ both.0 (starts_splits key s both.1)

-- TWO TEXTS

pub pointwise-is : (s t : List ℕ) → pointwise eqb s t ≡ same s t
pointwise-is [] [] = refl
pointwise-is [] (y ∷ t) = refl
pointwise-is (x ∷ s) [] = refl
pointwise-is (x ∷ s) (y ∷ t) = rw (pointwise-is s t) (both-is (eqb x y) (same s t))

-- Two texts that compare as the same are one.
pub same_text : (s t : List ℕ) → same s t ≡ true → s ≡ t
same_text [] [] is = refl
same_text [] (y ∷ t) is = absurd (false≢true is)
same_text (x ∷ s) [] is = absurd (false≢true is)
same_text (x ∷ s) (y ∷ t) is = let both = simp reads at is in ap₂ ◌∷◌ both.0 (same_text s t both.1)
