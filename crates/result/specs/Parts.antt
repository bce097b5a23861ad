-- The part of the result sheet that one function of the code puts.
-- proofs/Parts shows that the sheet has it between its second line and its last.
use Rattle.std.specs.Prelude.{List, ◌++◌, ℕ}
use Rattle.text.specs.Text.{bytes}
use Rattle.sheets.specs.Result.{Outcome, decimal, line_of}

-- The five lines of the run's tally.
unfoldable pub tally_lines : Outcome → List ℕ
tally_lines r =
    line_of (bytes "requests=") (decimal r.requests)
    ++ (line_of (bytes "hits=") (decimal r.hits)
    ++ (line_of (bytes "misses=") (decimal r.misses)
    ++ (line_of (bytes "evictions=") (decimal r.evictions)
    ++ line_of (bytes "steps=") (decimal r.steps))))
