-- The promises of the public operations: the answer and every lent word afterwards, for every input, refused ones too.
-- Each is fixed by the total function of figures' Refusals; proofs/Determined shows that it allows one outcome.
use Rattle.std.specs.Prelude.{◌≡◌, List, ℕ, ◌+◌, ◌*◌, ◌≤◌, Result, Ok, Err}
use Rattle.terms.specs.Choice.{∣◌∣}
use Rattle.terms.specs.declared.refusals.Refusal.{Refusal}
use Rattle.terms.specs.Refusals.{number_in}
use Rattle.figures.specs.Words.{decode}
use Rattle.figures.specs.Run as Run
use Rattle.figures.specs.Run.{zero_tally}
use Rattle.figures.specs.Refusals.{on_fresh, on_check, on_request, on_run}
use Rattle.figures.specs.Demands.{most_moves, moves_each, owed}
use Rattle.engine.specs.Shown.{number_of}
use Rattle.tally.specs.declared.Tally.{Tally}
use Rattle.tally.specs.Note.{defined}
use Rattle.directory.specs.declared.Answer.{Answer}

-- A word of the answer, and 0 beside a refusal.
abbrev pub word_in : (Answer → ℕ) → Result Answer Refusal → ℕ
word_in word (Ok answer) = word answer
word_in word (Err refusal) = 0

-- The tally of the run, and zeros beside a refusal.
abbrev pub tally_in : Result Tally Refusal → Run.Tally
tally_in (Ok tally) = defined tally
tally_in (Err refusal) = zero_tally

-- fresh(policy, c, dir)
pub record Freshened (policy c : ℕ) (w : List ℕ) (r : Result Unit Refusal) (w' : List ℕ) : Type 0 where
  pub number_is : number_in r ≡ (on_fresh policy c w).number
  pub words_are : w' ≡ (on_fresh policy c w).words

-- check(dir); dir is lent to be read alone
pub record Checked (w : List ℕ) (r : Result Unit Refusal) : Type 0 where
  pub number_is : number_in r ≡ (on_check w).number

-- request(dir, page)
pub record Requested (w : List ℕ) (page : ℕ) (r : Result Answer Refusal) (w' : List ℕ) : Type 0 where
  pub number_is : number_in r ≡ (on_request w page).number
  pub kind_is : word_in (λ a. number_of a.kind) r ≡ (on_request w page).kind
  pub page_is : word_in (λ a. a.page) r ≡ (on_request w page).page
  pub list_is : word_in (λ a. a.list) r ≡ (on_request w page).list
  pub moves_is : word_in (λ a. a.moves) r ≡ (on_request w page).moves
  pub words_are : w' ≡ (on_request w page).words
  -- c + 1 for CAR and CLOCK, 2c + 1 for CART, 1 for FIFO and LRU
  pub moves_at_most : word_in (λ a. a.moves) r ≤ most_moves (decode w)

-- run(dir, trace, answers)
pub record Replayed (w trace answers : List ℕ) (r : Result Tally Refusal) (w' answers' : List ℕ) : Type 0 where
  pub number_is : number_in r ≡ (on_run w trace answers).number
  pub tally_is : tally_in r ≡ (on_run w trace answers).tally
  pub words_are : w' ≡ (on_run w trace answers).words
  pub answers_are : answers' ≡ (on_run w trace answers).answers
  -- two a request for CART, one for the others, and what the directory owes at the start
  pub moves_at_most : (tally_in r).moves ≤ moves_each (decode w) * ∣ trace ∣ + owed (decode w)
