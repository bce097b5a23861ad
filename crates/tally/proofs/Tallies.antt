-- What a run learns of its tally: it is the tally of figures' Run, and n answers make it no larger than n answers can.
use Rattle.std.specs.Prelude.{if◌then◌else◌}
use mathlib.Core.Bool.{Bool, true, false}
use mathlib.Core.Path.{◌≡◌}
use Prim.Native.Nat.{ℕ, ◌+◌, ◌*◌, ◌≤◌}
use lib.Dec.{eqb, leb}
use native.Mathlib.Omega.{arith}
use Rattle.figures.specs.Request as Request
use Rattle.figures.specs.Run as Run
use Rattle.tally.specs.Note.{defined, noted_of}
use Rattle.tally.specs.declared.Tally.{Tally}

pub noted_defined : (t : Tally) {kind moves : ℕ} (s : Request.Served) → kind ≡ s.kind → moves ≡ s.moves
    → defined (noted_of t kind moves) ≡ Run.noted s (defined t)
noted_defined t s kind moves = rw (kind, moves)

-- The tally of n answers, of at most 2,049 moves each, is at most this large.
pub record Within (n : ℕ) (t : Run.Tally) : Type 0 where
  pub requests : t.requests ≤ n
  pub hits : t.hits ≤ n
  pub misses : t.misses ≤ n
  pub evictions : t.evictions ≤ n
  pub moves : t.moves ≤ 2049 * n

one_at_most : (b : Bool) → (if b then 1 else 0) ≤ 1
one_at_most true = omega arith
one_at_most false = omega arith

other_at_most : (b : Bool) → (if b then 0 else 1) ≤ 1
other_at_most true = omega arith
other_at_most false = omega arith

pub noted_within : (n : ℕ) (t : Run.Tally) (s : Request.Served) → s.moves ≤ 2049 → Within n t
    → Within (n + 1) (Run.noted s t)
noted_within n t s l w = record {
  requests = omega arith;
  hits = omega (arith, one_at_most (eqb s.kind 0));
  misses = omega (arith, other_at_most (eqb s.kind 0));
  evictions = omega (arith, one_at_most (leb 2 s.kind));
  moves = omega arith;
}
