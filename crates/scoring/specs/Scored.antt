-- The scoring program, as document 01 has it, and the ledger: what a bid sheet's replay comes to, in the bytes printed.
-- "`steps` is hand moves; `wait` is misses times miss cost".
use Rattle.std.specs.Prelude.{◌≡◌, List, [], ◌∷◌, ◌++◌, ℕ, ◌+◌, ◌*◌, get_or, drop}
use Rattle.figures.specs.Directory.{fresh}
use Rattle.figures.specs.Run.{Tally, Ran, run}
use Rattle.text.specs.Text.{bytes}
use Rattle.sheets.specs.Bid.{Bid, Meaning, bid, refused, meaning, filed_meaning}
use Rattle.sheets.specs.Result.{Outcome, result_sheet, refused_sheet}
use Rattle.sheets.specs.Copy.{copy, copy_of, copied}
use Rattle.sheets.specs.Examples.{worked}
use Rattle.result.specs.Ledger.{request_line}

-- The bid's pages, from a fresh directory of its policy and size.
abbrev pub replayed : Bid → Ran
replayed b = run b.pages (fresh b.policy b.c)

abbrev pub outcome : Bid → Tally → Outcome
outcome b t = record {
  policy = b.policy;
  pages = b.c;
  requests = t.requests;
  hits = t.hits;
  misses = t.misses;
  evictions = t.evictions;
  steps = t.moves;
  wait = t.misses * b.cost;
}

-- "A refused sheet prints `refused=N` and `line=N`, two lines."
unfoldable pub printed : Meaning → List ℕ
printed (bid b) = result_sheet (outcome b (replayed b).tally)
printed (refused number line) = refused_sheet number line

unfoldable pub scored : List ℕ → List ℕ
scored sheet = printed (meaning sheet)

-- "Input, whole" and "Output, whole". [proofs/Worked]
abbrev pub RunToReproduce : Type 0
RunToReproduce = scored (bytes worked)
    ≡ bytes "policy=car\npages=2\nrequests=8\nhits=2\nmisses=6\nevictions=4\nsteps=6\nwait=7,500\n"

-- A ledger's line of a request: its page, and the four words of its answer, which stand first among `answers`.
abbrev pub ledger_line : ℕ → ℕ → List ℕ → List ℕ
ledger_line request page answers =
    request_line request page (get_or answers 0 0) (get_or answers 1 0) (get_or answers 2 0) (get_or answers 3 0)

-- A line for each page and its four words, numbered from n on.
unfoldable pub ledger_lines : ℕ → List ℕ → List ℕ → List ℕ
ledger_lines n [] answers = []
ledger_lines n (page ∷ pages) answers = ledger_line n page answers ++ ledger_lines (n + 1) pages (drop 4 answers)

-- A bid's requests, numbered from 1; a refused sheet has none.
unfoldable pub request_lines : Meaning → List ℕ
request_lines (bid b) = ledger_lines 1 b.pages (replayed b).answers
request_lines (refused number line) = []

-- The ledger: what the scoring program prints, then a line for each request.
unfoldable pub ledgered : List ℕ → List ℕ
ledgered sheet = scored sheet ++ request_lines (meaning sheet)

-- The ledger of the run to reproduce. [proofs/Worked]
abbrev pub WorkedLedger : Type 0
WorkedLedger = ledgered (bytes worked)
    ≡ bytes "policy=car\npages=2\nrequests=8\nhits=2\nmisses=6\nevictions=4\nsteps=6\nwait=7,500\n"
    ++ (bytes "request=1 page=1 kind=1 evicted=0 list=0 moves=0\n"
    ++ (bytes "request=2 page=2 kind=1 evicted=0 list=0 moves=0\n"
    ++ (bytes "request=3 page=1 kind=0 evicted=0 list=0 moves=0\n"
    ++ (bytes "request=4 page=3 kind=2 evicted=2 list=1 moves=2\n"
    ++ (bytes "request=5 page=2 kind=3 evicted=3 list=1 moves=1\n"
    ++ (bytes "request=6 page=1 kind=0 evicted=0 list=0 moves=0\n"
    ++ (bytes "request=7 page=4 kind=2 evicted=2 list=2 moves=2\n"
    ++ bytes "request=8 page=2 kind=4 evicted=4 list=1 moves=1\n")))))))

-- "so an old line can be reproduced": of the copy, both programs print what the sheet came to when it was filed.
pub record Reproduced (sheet : List ℕ) : Type 0 where
  pub score_again : scored (copied sheet) ≡ printed (filed_meaning sheet)
  pub ledger_again : ledgered (copied sheet) ≡ printed (filed_meaning sheet) ++ request_lines (filed_meaning sheet)

-- [proofs/Filed]
abbrev pub OldLinesReproduced : Type 0
OldLinesReproduced = (sheet t : List ℕ) → copy_of sheet ≡ copy t → Reproduced sheet
