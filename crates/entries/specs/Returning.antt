-- A page that comes back from a history, alike for CAR and CART: what it is asked of, and what the words are then.
-- Before it the evict part has freed a place, of a sound directory that was full.
use Rattle.std.specs.Prelude.{◌≡◌, true, false, List, ℕ, ◌+◌, ◌≤◌, get_or}
use Rattle.figures.specs.Entry.{Entry, has, without}
use Rattle.figures.specs.Directory.{Directory, Name, B1, B2, with_list, with_p, to_tail}
use Rattle.figures.specs.Words.{flags, decode, size, n_t1, n_t2, n_b1, n_b2}
use Rattle.figures.specs.Sound.{Bounds, sound}
use Rattle.engine.specs.declared.kinds.Kind.{Kind}
use Rattle.entries.specs.declared.returning.Return.{Return}
use Rattle.entries.specs.Holds.{Holds}
use Rattle.entries.specs.Stretches.{Room, name_of}
use Rattle.entries.specs.Targets.{raised_target, lowered_target}

-- A sound directory of the policy that is full.
pub record Full (policy : ℕ) (w : List ℕ) : Type 0 where
  pub is_sound : sound w ≡ true
  pub is_named : get_or w 0 0 ≡ policy
  pub is-full : n_t1 w + n_t2 w ≡ size w

-- After the evict part: room for one page, and the histories may hold one too many.
pub record Freed (w : List ℕ) : Type 0 where
  pub is : Holds (decode w) w
  pub bounds : Bounds (size w) (get_or w 2 0)
  pub one_free : n_t1 w + n_t2 w + 1 ≡ size w
  pub history_most : n_b1 w + n_b2 w ≤ size w + 1
  pub room : Room w

-- The directory with page x, which was in B1 or in B2, as e at the tail of list t, and with the new target.
module _ (d : Directory) (x : ℕ) (e : Entry) (t : Name) (dividend : ℕ) where
  abbrev pub returned_from_b1 : Directory
  returned_from_b1 = to_tail t e (with_list B1 (without x d.b1) (with_p (raised_target dividend d) d))

  abbrev pub returned_from_b2 : Directory
  returned_from_b2 = to_tail t e (with_list B2 (without x d.b2) (with_p (lowered_target dividend d) d))

-- Where page x was and what the words w' hold, by the answer's kind. The words w held d; m and n are the dividends for
-- a page found in B1 and in B2.
pub data Returned (d : Directory) (x : ℕ) (e : Entry) (t : Name) (m n : ℕ) (w w' : List ℕ) : Kind → Type 0 where
  from-b1 : has x d.b1 ≡ true → Holds (returned_from_b1 d x e t m) w' → Returned d x e t m n w w' Kind.FromB1
  from-b2 : has x d.b1 ≡ false → has x d.b2 ≡ true → Holds (returned_from_b2 d x e t n) w'
      → Returned d x e t m n w w' Kind.FromB2
  is_new : has x d.b1 ≡ false → has x d.b2 ≡ false → w' ≡ w → Returned d x e t m n w w' Kind.New

-- The same of every directory that the words w hold, and of every entry of the page that has the flags asked for.
abbrev pub Returns : ℕ → Return → List ℕ → Kind → List ℕ → Type 0
Returns page to w kind w' =
    (d : Directory) (e : Entry) (m n : ℕ) → Holds d w → e.page ≡ page → to.flags ≡ flags e → to.b1 ≡ m → to.b2 ≡ n
    → Returned d page e (name_of to.tail) m n w w' kind
