-- A run: the requests of a trace in order, with one tally that every request brings up to date.
-- The answers stand in order, four words each.
use Rattle.std.specs.Prelude.{List, [], ◌∷◌, ◌++◌, ℕ, ◌+◌, leb, eqb, if◌then◌else◌}
use Rattle.figures.specs.Directory.{Directory}
use Rattle.figures.specs.Request.{Served, answer, request}

pub record Tally : Type 0 where
  pub requests : ℕ
  pub hits : ℕ
  pub misses : ℕ
  pub evictions : ℕ
  pub moves : ℕ

-- "From zeros at its start"
abbrev pub zero_tally : Tally
zero_tally = record { requests = 0; hits = 0; misses = 0; evictions = 0; moves = 0 }

-- "requests, hits (kind 0), misses (the rest), evictions (kinds 2 to 4), hand moves (their sum)"
abbrev pub noted : Served → Tally → Tally
noted s t = record {
  requests = t.requests + 1;
  hits = t.hits + (if eqb s.kind 0 then 1 else 0);
  misses = t.misses + (if eqb s.kind 0 then 0 else 1);
  evictions = t.evictions + (if leb 2 s.kind then 1 else 0);
  moves = t.moves + s.moves;
}

pub record Ran : Type 0 where
  pub tally : Tally
  pub answers : List ℕ
  pub dir : Directory

abbrev pub before : List ℕ → Ran → Ran
before a r = record { tally = r.tally; answers = a ++ r.answers; dir = r.dir }

unfoldable pub run_from : Tally → List ℕ → Directory → Ran
run_from t [] d = record { tally = t; answers = []; dir = d }
run_from t (x ∷ trace) d = let s = request x d in before (answer s) (run_from (noted s t) trace s.dir)

abbrev pub run : List ℕ → Directory → Ran
run trace d = run_from zero_tally trace d
