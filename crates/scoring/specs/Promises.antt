-- The promises of score and ledger: the answer and all lent memory afterwards, for every input, refused ones too.
-- Each is fixed by a total function of Refusals; proofs/Determined shows that two outcomes it allows are equal.
use Rattle.std.specs.Prelude.{◌≡◌, List, ℕ, ◌≤◌, Result}
use Rattle.std.specs.Result.{result_unwrap_or}
use Rattle.terms.specs.Choice.{∣◌∣}
use Rattle.terms.specs.RefusedAt.{number_at, line_at}
use Rattle.terms.specs.declared.refusals.RefusedAt.{RefusedAt}
use Rattle.scoring.specs.declared.Scored.{Scored}
use Rattle.scoring.specs.Refusals.{Scoring, on_score, on_ledger}

-- How many requests were served: none where the call is refused.
abbrev pub requests_of : Result ℕ RefusedAt → ℕ
requests_of served = result_unwrap_or served 0

-- The answer and the lent memory are those that a definition gives.
pub record ScoredAs (defined : Scoring) (r : Scored) (pages' dir' answers' out' : List ℕ) : Type 0 where
  pub number_is : number_at r.served ≡ defined.number
  pub line_is : line_at r.served ≡ defined.line
  pub count_is : r.count ≡ defined.count
  pub requests_are : requests_of r.served ≡ defined.requests
  pub pages_are : pages' ≡ defined.pages
  pub dir_is : dir' ≡ defined.dir
  pub answers_are : answers' ≡ defined.answers
  pub out_is : out' ≡ defined.out
  -- so that the bytes counted can be handed on
  pub count_fits : r.count ≤ ∣ out' ∣

-- score(sheet, pages, dir, answers, out) -> Scored
abbrev pub SheetScored : (sheet pages dir answers out : List ℕ) → Scored
    → (pages' dir' answers' out' : List ℕ) → Type 0
SheetScored sheet pages dir answers out = ScoredAs (on_score sheet pages dir answers out)

-- ledger(sheet, pages, dir, answers, out) -> Scored
abbrev pub SheetLedgered : (sheet pages dir answers out : List ℕ) → Scored
    → (pages' dir' answers' out' : List ℕ) → Type 0
SheetLedgered sheet pages dir answers out = ScoredAs (on_ledger sheet pages dir answers out)
