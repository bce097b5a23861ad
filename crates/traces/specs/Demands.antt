-- Every promise about the definitions, each beside the sentence that asks for it; behind it, in brackets, the file of
-- proofs/ that proves it.
use Rattle.std.specs.Prelude.{◌≡◌, Bool, true, false, ◌↔◌, List, [], ◌++◌, ℕ, ◌+◌, ◌*◌, ◌≤◌, ◌<◌, get_or, eqb, if◌then◌else◌}
use Rattle.terms.specs.Choice.{∣◌∣, all_at_most}
use Rattle.sheets.specs.Lines.{Lines, end, unclosed, line, lines}
use Rattle.sheets.specs.Bid.{Bid, bid, meaning}
use Rattle.traces.specs.Record.{Record, read, write, not_in_form, record_of}
use Rattle.traces.specs.Touch.{page_count, touched, touches_over}
use Rattle.traces.specs.Trace.{taken, refused_at, pages_from, pages_of}
use Rattle.traces.specs.Refusals.{answer, on_pages, page_lines}

-- THE PAGES OF A RECORD

-- Page p has a byte of the record in it: one of the `size` bytes from LBA · 512 on, in [4096·p, 4096·p + 4095].
pub record Touches (lba size p : ℕ) : Type 0 where
  pub byte : ℕ
  pub from_the_start : 512 * lba ≤ byte
  pub before_the_end : byte < 512 * lba + size
  pub page_starts : 4096 * p ≤ byte
  pub page_ends : byte ≤ 4096 * p + 4095

-- p stands in the list, at a place.
pub record In (p : ℕ) (l : List ℕ) : Type 0 where
  pub place : ℕ
  pub inside : place < ∣ l ∣
  pub there : get_or l place 0 ≡ p

-- "a record's pages are exactly those p with some byte of it in [4096·p, 4096·p + 4095]", for any size [Touched]
abbrev pub TouchesExactly : Type 0
TouchesExactly = (lba size p : ℕ) → In p (touched lba size) ↔ Touches lba size p

-- "lowest first" [Touched]
abbrev pub LowestFirst : Type 0
LowestFirst = (lba size i j : ℕ) → i < j → j < ∣ touched lba size ∣
    → get_or (touched lba size) i 0 < get_or (touched lba size) j 0

-- "touches a page over 4,294,967,295": the test for 11 asks that. [Touched]
pub record Over (lba size : ℕ) : Type 0 where
  pub page : ℕ
  pub over : 4294967295 < page
  pub touches : Touches lba size page

abbrev pub TestsOver : Type 0
TestsOver = (lba size : ℕ) → (touches_over lba size ≡ true) ↔ Over lba size

-- "5 for a page too many": the count that is tested is the count of the pages. [Touched]
abbrev pub CountsPages : Type 0
CountsPages = (lba size : ℕ) → ∣ touched lba size ∣ ≡ page_count lba size

-- THE PAGES OF A TRACE

-- "the page numbers of the chosen unit's reads, in order", without a thought of refusals
abbrev pub of_read : ℕ → Record → List ℕ
of_read unit (read of lba size) = if eqb of unit then touched lba size else []
of_read unit (write of lba size) = []
of_read unit not_in_form = []

abbrev pub of_reads : ℕ → Lines → List ℕ
of_reads unit end = []
of_reads unit unclosed = []
of_reads unit (line l rest) = of_read unit (record_of l) ++ of_reads unit rest

-- "all lines are judged for their form"
abbrev pub is_record : Record → Bool
is_record (read of lba size) = true
is_record (write of lba size) = true
is_record not_in_form = false

abbrev pub all_records : Lines → Bool
all_records end = true
all_records unclosed = false
all_records (line l rest) = if is_record (record_of l) then all_records rest else false

-- A trace is taken where it is short enough, every line is in the form, and the pages are few and small enough, and
-- nowhere else; and these pages are taken. [Exactly]
pub record Good (unit : ℕ) (file pages : List ℕ) : Type 0 where
  pub short : ∣ file ∣ ≤ 16000
  pub in-form : all_records (lines file) ≡ true
  pub pages_are : of_reads unit (lines file) ≡ pages
  pub few : ∣ pages ∣ ≤ 1000
  pub small : all_at_most 4294967295 pages ≡ true

abbrev pub TakenExactly : Type 0
TakenExactly = (unit : ℕ) (file pages : List ℕ) → (pages_of unit file ≡ taken pages) ↔ Good unit file pages

-- "At most .. 1,000 pages come from one call", and each is at most 4,294,967,295. [Taken]
pub record InRange (pages : List ℕ) : Type 0 where
  pub pages_at_most : ∣ pages ∣ ≤ 1000
  pub each_page_at_most : all_at_most 4294967295 pages ≡ true

abbrev pub PagesInRange : Type 0
PagesInRange = (unit : ℕ) (file pages : List ℕ) → pages_of unit file ≡ taken pages → InRange pages

-- "An accepted call gives number 0": no refusal does. [Taken]
abbrev pub RefusalsHaveNumbers : Type 0
RefusalsHaveNumbers = (unit : ℕ) (file : List ℕ) (number line : ℕ) → pages_of unit file ≡ refused_at number line
    → 1 ≤ number

-- "6 if the buffer has under 1,000 words, 7, then from the top", "a refused call changes none". [Answered]
pub record AnsweredInOrder (file : List ℕ) (unit : ℕ) (buffer : List ℕ) : Type 0 where
  pub first_six : ∣ buffer ∣ < 1000 → on_pages file unit buffer ≡ answer (refused_at 6 0) buffer
  pub then_seven : 1000 ≤ ∣ buffer ∣ → 16000 < ∣ file ∣ → on_pages file unit buffer ≡ answer (refused_at 7 0) buffer
  pub then_lines : 1000 ≤ ∣ buffer ∣ → ∣ file ∣ ≤ 16000
      → on_pages file unit buffer ≡ answer (pages_from unit 0 0 (lines file)) buffer
  pub refused_stays : ((on_pages file unit buffer).number ≡ 0 → ⊥) → (on_pages file unit buffer).pages ≡ buffer

abbrev pub AllAnsweredInOrder : Type 0
AllAnsweredInOrder = (file : List ℕ) (unit : ℕ) (buffer : List ℕ) → AnsweredInOrder file unit buffer

-- "so that a sheet can be put together with `cat`": behind the first three lines of a good sheet the page lines are the
-- sheet's trace, where the sheet is not too long. [PutTogether]
abbrev pub with_trace : Bid → List ℕ → Bid
with_trace b pages = record { policy = b.policy; c = b.c; cost = b.cost; pages = pages }

abbrev pub SheetsPutTogether : Type 0
SheetsPutTogether = (head : List ℕ) (b : Bid) (unit : ℕ) (file pages : List ℕ)
    → meaning head ≡ bid b → b.pages ≡ [] → pages_of unit file ≡ taken pages
    → ∣ head ++ page_lines pages ∣ ≤ 16000 → meaning (head ++ page_lines pages) ≡ bid (with_trace b pages)
