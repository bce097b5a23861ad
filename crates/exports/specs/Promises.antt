-- The promises of the functions for C: the answer and every lent word afterwards, for every input, refused ones too.
-- They are those of directory/specs/Promises, said of the structs that C has: a number, and zeros beside a refusal's.
use Rattle.std.specs.Prelude.{◌≡◌, List, ℕ, ◌+◌, ◌*◌, ◌≤◌, Result}
use Rattle.terms.specs.Choice.{∣◌∣}
use Rattle.terms.specs.declared.refusals.Refusal.{Refusal}
use Rattle.terms.specs.Refusals.{number_in}
use Rattle.figures.specs.Words.{decode}
use Rattle.figures.specs.Refusals.{on_fresh, on_check, on_request, on_run}
use Rattle.figures.specs.Demands.{most_moves, moves_each, owed}
use Rattle.engine.specs.Shown.{number_of}
use Rattle.tally.specs.declared.Tally.{Tally}
use Rattle.tally.specs.Note.{defined}
use Rattle.directory.specs.declared.Answer.{Answer as Answered}
use Rattle.directory.specs.Promises.{word_in, tally_in}
use Rattle.exports.specs.declared.Answer.{Answer}
use Rattle.exports.specs.declared.Ran.{Ran}

-- The directory's answer, and its tally, as C has them.
abbrev pub answer_of : Result Answered Refusal → Answer
answer_of r = record {
  number = number_in r;
  kind = word_in (λ a. number_of a.kind) r;
  page = word_in (λ a. a.page) r;
  list = word_in (λ a. a.list) r;
  moves = word_in (λ a. a.moves) r;
}

pub record RunAs (r : Result Tally Refusal) (ran : Ran) : Type 0 where
  pub number_is : ran.number ≡ number_in r
  pub tally_is : defined ran.tally ≡ tally_in r

-- replay_fresh -> number
pub record Freshened (policy c : ℕ) (w : List ℕ) (number : ℕ) (w' : List ℕ) : Type 0 where
  pub number_is : number ≡ (on_fresh policy c w).number
  pub words_are : w' ≡ (on_fresh policy c w).words

-- replay_check -> number; the words are lent to be read alone
pub record Checked (w : List ℕ) (number : ℕ) : Type 0 where
  pub number_is : number ≡ (on_check w).number

-- replay_request -> Answer
pub record Requested (w : List ℕ) (page : ℕ) (r : Answer) (w' : List ℕ) : Type 0 where
  pub number_is : r.number ≡ (on_request w page).number
  pub kind_is : r.kind ≡ (on_request w page).kind
  pub page_is : r.page ≡ (on_request w page).page
  pub list_is : r.list ≡ (on_request w page).list
  pub moves_is : r.moves ≡ (on_request w page).moves
  pub words_are : w' ≡ (on_request w page).words
  -- c + 1 for CAR and CLOCK, 2c + 1 for CART, 1 for FIFO and LRU
  pub moves_at_most : r.moves ≤ most_moves (decode w)

-- replay_run -> Ran
pub record Replayed (w trace answers : List ℕ) (r : Ran) (w' answers' : List ℕ) : Type 0 where
  pub number_is : r.number ≡ (on_run w trace answers).number
  pub tally_is : defined r.tally ≡ (on_run w trace answers).tally
  pub words_are : w' ≡ (on_run w trace answers).words
  pub answers_are : answers' ≡ (on_run w trace answers).answers
  -- two a request for CART, one for the others, and what the directory owes at the start
  pub moves_at_most : r.tally.moves ≤ moves_each (decode w) * ∣ trace ∣ + owed (decode w)
