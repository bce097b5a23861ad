-- A tally brought up to date by one answer, as figures' Run.noted has it, and how large a tally may be. Of the answer
-- it takes the kind's number and the moves.
-- `defined` reads the code's struct as the tally of the definitions.
use Rattle.std.specs.Prelude.{ℕ, ◌+◌, ◌≤◌, eqb, leb, if◌then◌else◌}
use Rattle.figures.specs.Run as Run
use Rattle.tally.specs.declared.Tally.{Tally}

abbrev pub defined : Tally → Run.Tally
defined t =
    record { requests = t.requests; hits = t.hits; misses = t.misses; evictions = t.evictions; moves = t.moves }

abbrev pub noted_of : Tally → ℕ → ℕ → Tally
noted_of t kind moves = record {
  requests = t.requests + 1;
  hits = t.hits + (if eqb kind 0 then 1 else 0);
  misses = t.misses + (if eqb kind 0 then 0 else 1);
  evictions = t.evictions + (if leb 2 kind then 1 else 0);
  moves = t.moves + moves;
}

-- Room for one more answer: a run has at most 1,000, of at most 2,049 moves each.
pub record Small (t : Tally) : Type 0 where
  pub requests : t.requests ≤ 1000
  pub hits : t.hits ≤ 1000
  pub misses : t.misses ≤ 1000
  pub evictions : t.evictions ≤ 1000
  pub moves : t.moves ≤ 2049000
