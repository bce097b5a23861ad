-- What each answer means: the numbers and pages that the definitions give it.
-- A place in the trace stands for the lines from there on.
use Rattle.std.specs.Prelude.{◌≡◌, List, ℕ, suc, ◌+◌, ◌≤◌, ◌<◌, drop, Result, Ok, Err}
use Rattle.terms.specs.Choice.{∣◌∣, numbers_from}
use Rattle.terms.specs.Refusals.{number_of}
use Rattle.terms.specs.declared.refusals.Refusal.{Refusal}
use Rattle.terms.specs.declared.refusals.RefusedAt.{RefusedAt}
use Rattle.sheets.specs.Lines.{lines}
use Rattle.sheets.specs.Refusals.{over}
use Rattle.traces.specs.Trace as Trace
use Rattle.traces.specs.Trace.{yields, wrong, counted, Pages, taken, refused_at, onto, pages_from}
use Rattle.council.specs.declared.record_lines.Yielded.{Yielded}

-- A LINE'S ANSWER

abbrev pub told : Result Yielded Refusal → Trace.Reading
told (Ok read) = yields (numbers_from read.first read.count)
told (Err refusal) = wrong (number_of refusal)

-- The pages are in range, and few enough behind n others; the next line starts where it is said.
abbrev pub Fits : ℕ → ℕ → Result Yielded Refusal → Type 0
Fits n at (Ok read) = (n + read.count ≤ 1000) × (read.first + read.count ≤ 4294967296) × (read.next ≡ at)
Fits n at (Err refusal) = Unit

-- A record that counts.
pub record Counted (lba size n next : ℕ) (r : Result Yielded Refusal) : Type 0 where
  pub tells : told r ≡ counted n lba size
  pub fits : Fits n next r

-- THE TRACE FROM A LINE ON

-- What the lines from a place on come to by the answer of the first: k lines and n pages stand before it.
abbrev pub goes_on : List ℕ → ℕ → ℕ → ℕ → Result Yielded Refusal → Pages
goes_on s unit k n (Ok read) =
    onto (suc k) (yields (numbers_from read.first read.count))
    (pages_from unit (suc k) (n + read.count) (lines (drop read.next s)))
goes_on s unit k n (Err refusal) = refused_at (number_of refusal) (suc k)

-- The next line starts behind this one, and the pages fit.
abbrev pub Ahead : List ℕ → ℕ → ℕ → Result Yielded Refusal → Type 0
Ahead s at n (Ok read) =
    (at < read.next) × (read.next ≤ ∣ s ∣) × (n + read.count ≤ 1000) × (read.first + read.count ≤ 4294967296)
Ahead s at n (Err refusal) = Unit

pub record LineRead (s : List ℕ) (at unit n : ℕ) (r : Result Yielded Refusal) : Type 0 where
  pub goes-on : (k : ℕ) → pages_from unit k n (lines (drop at s)) ≡ goes_on s unit k n r
  pub ahead : Ahead s at n r

-- THE PAGES OF THE TRACE

-- How many pages a trace has for the unit, or the number and line of its refusal.
pub data Size : Type 0 where
  amount : ℕ → Size
  refuses : ℕ → ℕ → Size

abbrev pub size_of : Pages → Size
size_of (taken pages) = amount ∣ pages ∣
size_of (refused_at number line) = refuses number line

abbrev pub size_in : Result ℕ RefusedAt → Size
size_in (Ok count) = amount count
size_in (Err refused) = refuses (number_of refused.refusal) refused.line

-- The pages of a good trace, written into a buffer.
abbrev pub PagesFilled : List ℕ → ℕ → List ℕ → List ℕ → Type 0
PagesFilled s unit w w' = (pages : List ℕ) → pages_from unit 0 0 (lines s) ≡ taken pages → w' ≡ over pages w
