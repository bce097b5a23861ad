-- What CART's functions ask of lent words and read there, beside what engine says of the passes.
-- These functions are internal: the public operations ask for nothing.
use Rattle.std.specs.Prelude.{◌≡◌, Bool, false, List, ℕ, ◌+◌, ◌*◌, ◌≤◌, get_or, if◌then◌else◌}
use Rattle.figures.specs.Entry.{Entry, demoted, is_long}
use Rattle.figures.specs.Directory.{Directory, list_of}
use Rattle.figures.specs.Words.{flags, size, n_t1, n_t2}
use Rattle.figures.specs.Cart.{becomes_long}
use Rattle.engine.specs.declared.counts.ShortCount.{ShortCount}
use Rattle.engine.specs.declared.counts.LongCount.{LongCount}
use Rattle.engine.specs.Heads.{front_of, head_to}
use Rattle.engine.specs.Passes.{goes_on}
use Rattle.entries.specs.Holds.{Holds}
use Rattle.entries.specs.Stretches.{name_of}

-- Line 30's test of T1's head.
abbrev pub lengthens : Entry → Directory → Bool
lengthens e d = if is_long e.filter then false else becomes_long d

-- f are the flags of list i's head.
abbrev pub HeadFlags : ℕ → ℕ → List ℕ → Type 0
HeadFlags i f w = (d : Directory) → Holds d w → f ≡ flags (front_of (list_of (name_of i) d))

-- Line 27's test of T1's head comes to b.
abbrev pub SecondTest : Bool → List ℕ → Type 0
SecondTest b w = (d : Directory) → Holds d w → goes_on (front_of d.t1) ≡ b

-- The head of list i, for this page, is demoted to its history's tail.
abbrev pub HeadDemoted : ℕ → ℕ → List ℕ → List ℕ → Type 0
HeadDemoted i page w w' =
    (d : Directory) → Holds d w
    → (page ≡ (front_of (list_of (name_of i) d)).page) × Holds (head_to (name_of i) (name_of (i + 2)) demoted d) w'

-- q may be raised: no sum or difference of the test leaves its range.
abbrev pub Raisable : List ℕ → ℕ → Type 0
Raisable w n_s = (size w ≤ 1024) × (get_or w 3 0 ≤ 2048) × (n_t1 w ≤ size w) × (n_s ≤ n_t1 w + n_t2 w)

-- After the evict part: what the counts are at most, and q.
pub record CountsFit (w : List ℕ) (n_s : ShortCount) (n_l : LongCount) : Type 0 where
  pub q_fits : get_or w 3 0 ≤ 2 * size w
  pub shorts : n_s.0 ≤ n_t1 w + n_t2 w
  pub longs : n_l.0 ≤ n_t1 w + n_t2 w
