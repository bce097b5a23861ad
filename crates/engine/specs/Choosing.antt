-- CAR's choice and its looks over lent memory w, and k, what the hand has counted. How memory shows a directory is a
-- parameter. Any hand that memory and counts show may be meant: a promise is one about each of them.
use Rattle.std.specs.Prelude.{◌≡◌, ◌+◌, ◌≤◌, if◌then◌else◌}
use Rattle.figures.specs.Entry.{bits}
use Rattle.figures.specs.Directory.{Directory, Name, T1, T2, B1, B2, cached, remembered, in_cache, t1_at_target}
use Rattle.figures.specs.Hand.{Hand}
use Rattle.figures.specs.Car.{choose}
use Rattle.figures.specs.Sound.{Bounds}
use Rattle.engine.specs.declared.Hand.{Hand as Counted}
use Rattle.engine.specs.declared.Evicted.{Evicted}
use Rattle.engine.specs.Shown.{Counts, EndsWhere, EvictedAs}

-- The clock that line 24 chooses, and the history that a clock's pages are demoted to. Nothing is demoted from a
-- history.
abbrev pub chosen : Directory → Name
chosen d = if t1_at_target d then T1 else T2

abbrev pub history_of : Name → Name
history_of T1 = B1
history_of T2 = B2
history_of B1 = B1
history_of B2 = B2

-- Of a full directory between two looks: each set bit may still cost a move.
pub record CarReady (d : Directory) (k : Counted) : Type 0 where
  pub bounds : Bounds d.c d.p
  pub full : cached d ≡ d.c
  pub history_fits : remembered d ≤ d.c
  pub left : k.moves + in_cache bits d ≤ 1024
  pub cleared_most : k.cleared ≤ k.moves

module _ {W : Type 0} (Shows : Directory → W → Type 0) where
  -- Between two looks of the evict part.
  pub record Turning (w : W) (k : Counted) : Type 0 where
    pub dir : Directory
    pub shown : Shows dir w
    pub ready : CarReady dir k

  -- Clock i is the chosen one.
  abbrev pub Chosen : Name → W → Type 0
  Chosen i w = (d : Directory) → Shows d w → i ≡ chosen d

  -- From every hand that is shown the published repeat ends, at the hand that is answered.
  abbrev pub EndsFrom : W → Counted → Evicted → W → Type 0
  EndsFrom w k r w' = (h : Hand) → Shows h.dir w → Counts h k → EndsWhere choose h (λ z. EvictedAs Shows z r w')
