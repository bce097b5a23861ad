-- T1 as a queue in the words: what FIFO's, CLOCK's and LRU's functions need of it, and what they make of it.
-- These functions are internal: the public operations ask for nothing.
use Rattle.std.specs.Prelude.{◌≡◌, true, false, List, ℕ, ◌+◌, ◌≤◌}
use Rattle.terms.specs.Choice.{∣◌∣}
use Rattle.figures.specs.Entry.{bits, total}
use Rattle.figures.specs.Directory.{Directory, remembered}
use Rattle.figures.specs.Words.{decode, size, n_t1, n_t2}
use Rattle.figures.specs.Hand.{Hand, begin, Leads}
use Rattle.figures.specs.Classics.{alone_sound, renew, clock_look}
use Rattle.figures.specs.Sound.{SizeBounds, sound}
use Rattle.engine.specs.declared.Hand.{Hand as Counted}
use Rattle.engine.specs.Shown.{Counts}
use Rattle.engine.specs.Heads.{front_of}
use Rattle.entries.specs.Holds.{Holds}
use Rattle.entries.specs.Stretches.{index}

-- A sound directory of one of the three that is full.
pub record FullQueue (w : List ℕ) : Type 0 where
  pub is_sound : sound w ≡ true
  pub is_alone : alone_sound w ≡ true
  pub is-full : n_t1 w + n_t2 w ≡ size w

-- The entry of page x, which is entry k of T1, becomes its tail.
abbrev pub Renewed : ℕ → List ℕ → List ℕ → Type 0
Renewed k w w' = (d : Directory) (x : ℕ) → Holds d w → k ≡ index x d.t1 → Holds (renew x d) w'

-- T1 alone and full, and each set bit may still cost a move.
pub record Queue (d : Directory) (moves : ℕ) : Type 0 where
  pub bounds : SizeBounds d.c
  pub full : ∣ d.t1 ∣ ≡ d.c
  pub others_empty : ∣ d.t2 ∣ + remembered d ≡ 0
  pub left : moves + total bits d.t1 ≤ d.c

-- CLOCK's looks have led from the directory that the words w hold to a hand that the words w' show, which has counted k:
-- each of its moves has cleared a bit.
pub record Led (w : List ℕ) (k : Counted) (w' : List ℕ) : Type 0 where
  pub at : Hand
  pub leads : Leads clock_look (begin 0 0 (decode w)) at
  pub shown : Holds at.dir w'
  pub counts : Counts at k
  pub all_cleared : k.cleared ≡ k.moves
  pub queue : Queue at.dir k.moves

-- They have led to a head whose bit is clear.
pub record Passed (w : List ℕ) (k : Counted) (w' : List ℕ) : Type 0 where
  pub led : Led w k w'
  pub clear : (front_of led.at.dir.t1).bit ≡ false
