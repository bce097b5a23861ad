-- The promises of copy and answer: the answer and every lent byte afterwards, for every input, refused ones too.
-- Each is fixed by a total function; proofs/Determined shows that two outcomes it allows are equal.
use Rattle.std.specs.Prelude.{◌≡◌, List, ℕ, ◌+◌, ◌≤◌, ltb, if◌then◌else◌, Result}
use Rattle.terms.specs.Choice.{∣◌∣}
use Rattle.terms.specs.Limits.{most_sheet_bytes}
use Rattle.terms.specs.Refusals.{accepted, buffer_too_short}
use Rattle.terms.specs.RefusedAt.{number_at, line_at}
use Rattle.terms.specs.declared.refusals.Refusal.{Refusal}
use Rattle.terms.specs.declared.refusals.RefusedAt.{RefusedAt}
use Rattle.sheets.specs.Copy.{behind_key, copied}
use Rattle.sheets.specs.Refusals as Sheets
use Rattle.sheets.specs.Refusals.{over, on_copy}
use Rattle.result.specs.Promises.{count_in, Wrote}

-- The code's answer and the lent bytes afterwards are what a definition gives.
pub record CopiedAs (defined : Sheets.Copied) (r : Result ℕ RefusedAt) (out' : List ℕ) : Type 0 where
  pub number_is : number_at r ≡ defined.number
  pub line_is : line_at r ≡ defined.line
  pub count_is : count_in r ≡ defined.count
  pub bytes_are : out' ≡ defined.out

-- copy(sheet, out) -> Result<usize, RefusedAt>
abbrev pub SheetCopied : List ℕ → List ℕ → Result ℕ RefusedAt → List ℕ → Type 0
SheetCopied sheet out = CopiedAs (on_copy sheet out)

-- What the program prints stands in front of the lent bytes; too few for any copy are refused 6.
unfoldable pub on_answer : List ℕ → List ℕ → Sheets.Written
on_answer sheet out =
    if ltb ∣ out ∣ most_sheet_bytes then record { number = buffer_too_short; count = 0; out = out }
    else record { number = accepted; count = ∣ copied sheet ∣; out = over (copied sheet) out }

-- answer(sheet, out) -> Result<usize, Refusal>
pub record CopyAnswered (sheet out : List ℕ) (r : Result ℕ Refusal) (out' : List ℕ) : Type 0 where
  pub wrote : Wrote (on_answer sheet out) r out'
  -- so that the bytes counted can be handed on
  pub count_fits : count_in r ≤ ∣ out' ∣

-- Room for the sheet with three bytes more; it has a key, and a line feed behind it. (put_with_car is internal.)
pub record RoomForCar (sheet out : List ℕ) : Type 0 where
  pub has_key : behind_key + 1 ≤ ∣ sheet ∣
  pub fits : ∣ sheet ∣ + 3 ≤ ∣ out ∣
