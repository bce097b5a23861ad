-- The reader of a trace as a total function: of any bytes, unit and buffer, the answer and the lent words afterwards.
-- And what the program prints: a line `page=` for each page, or the two lines of a refusal.
use Rattle.std.specs.Prelude.{Bool, List, [], ◌∷◌, ◌++◌, ℕ, ltb, if◌then◌else◌}
use Rattle.terms.specs.Choice.{∣◌∣}
use Rattle.terms.specs.Limits.{most_pages}
use Rattle.terms.specs.Refusals.{accepted, buffer_too_short}
use Rattle.text.specs.Text.{bytes}
use Rattle.sheets.specs.Result.{decimal, line_of, refused_sheet}
use Rattle.sheets.specs.Refusals.{over}
use Rattle.traces.specs.Trace.{Pages, taken, refused_at, pages_of}

pub record Taken : Type 0 where
  pub number : ℕ
  pub line : ℕ
  pub count : ℕ
  pub pages : List ℕ

abbrev pub answer : Pages → List ℕ → Taken
answer (taken pages) buffer = record {
  number = accepted;
  line = 0;
  count = ∣ pages ∣;
  pages = over pages buffer;
}
answer (refused_at number line) buffer = record { number = number; line = line; count = 0; pages = buffer }

-- "6 if the buffer has under 1,000 words, 7, then from the top"
abbrev pub too_short : List ℕ → Bool
too_short buffer = ltb ∣ buffer ∣ most_pages

unfoldable pub on_pages : List ℕ → ℕ → List ℕ → Taken
on_pages file unit buffer =
    if too_short buffer then answer (refused_at buffer_too_short 0) buffer else answer (pages_of unit file) buffer

-- "prints `page=` lines, so that a sheet can be put together with `cat`; a refusal prints the two lines"
abbrev pub page_lines : List ℕ → List ℕ
page_lines [] = []
page_lines (page ∷ pages) = line_of (bytes "page=") (decimal page) ++ page_lines pages

abbrev pub printed_pages : Pages → List ℕ
printed_pages (taken pages) = page_lines pages
printed_pages (refused_at number line) = refused_sheet number line

unfoldable pub printed : ℕ → List ℕ → List ℕ
printed unit file = printed_pages (pages_of unit file)
