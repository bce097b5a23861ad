-- The promises of pages and answer: the answer and all lent memory afterwards, for every input, refused ones too.
-- Each is fixed by a total function; proofs/Determined shows that two outcomes it allows are equal.
use Rattle.std.specs.Prelude.{◌≡◌, ◌||◌, List, ℕ, ◌*◌, ◌≤◌, ltb, if◌then◌else◌, Result}
use Rattle.terms.specs.Choice.{∣◌∣}
use Rattle.terms.specs.Limits.{most_pages}
use Rattle.terms.specs.Refusals.{accepted, buffer_too_short, number_in}
use Rattle.terms.specs.RefusedAt.{number_at, line_at}
use Rattle.terms.specs.declared.refusals.Refusal.{Refusal}
use Rattle.terms.specs.declared.refusals.RefusedAt.{RefusedAt}
use Rattle.sheets.specs.Refusals.{over}
use Rattle.traces.specs.Refusals as Traces
use Rattle.traces.specs.Refusals.{on_pages, printed}
use Rattle.result.specs.Promises.{count_in}

-- The code's answer and the lent words afterwards are what a definition gives.
pub record TakenAs (defined : Traces.Taken) (r : Result ℕ RefusedAt) (pages' : List ℕ) : Type 0 where
  pub number_is : number_at r ≡ defined.number
  pub line_is : line_at r ≡ defined.line
  pub count_is : count_in r ≡ defined.count
  pub words_are : pages' ≡ defined.pages

-- pages(file, unit, pages) -> Result<u32, RefusedAt>
abbrev pub PagesTaken : List ℕ → ℕ → List ℕ → Result ℕ RefusedAt → List ℕ → Type 0
PagesTaken file unit pages = TakenAs (on_pages file unit pages)

-- What the program prints stands in front of the lent bytes, and the pages of a good trace in front of the words; too
-- few words for 1,000 pages, or bytes for as many lines, are refused 6.
pub record Answer : Type 0 where
  pub number : ℕ
  pub count : ℕ
  pub pages : List ℕ
  pub out : List ℕ

unfoldable pub on_answer : List ℕ → ℕ → List ℕ → List ℕ → Answer
on_answer file unit pages out =
    if ltb ∣ pages ∣ most_pages || ltb ∣ out ∣ (16 * most_pages)
    then record { number = buffer_too_short; count = 0; pages = pages; out = out }
    else record {
      number = accepted;
      count = ∣ printed unit file ∣;
      pages = (on_pages file unit pages).pages;
      out = over (printed unit file) out;
    }

pub record AnsweredAs (defined : Answer) (r : Result ℕ Refusal) (pages' out' : List ℕ) : Type 0 where
  pub number_is : number_in r ≡ defined.number
  pub count_is : count_in r ≡ defined.count
  pub words_are : pages' ≡ defined.pages
  pub bytes_are : out' ≡ defined.out
  -- so that the bytes counted can be handed on
  pub count_fits : count_in r ≤ ∣ out' ∣

-- answer(file, unit, buffer, out) -> Result<usize, Refusal>
abbrev pub PagesAnswered : List ℕ → ℕ → List ℕ → List ℕ → Result ℕ Refusal → List ℕ → List ℕ → Type 0
PagesAnswered file unit pages out = AnsweredAs (on_answer file unit pages out)
