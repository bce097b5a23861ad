-- What a trace comes to for one unit: the page numbers of its reads, or a refusal's number with its line.
-- "from the top 10 .., 11 .., 5 for a page too many": the first line that is wrong decides.
use Rattle.std.specs.Prelude.{Bool, List, [], ◌++◌, ℕ, suc, ◌+◌, ltb, eqb, if◌then◌else◌}
use Rattle.terms.specs.Choice.{∣◌∣}
use Rattle.terms.specs.Limits.{most_pages, most_trace_bytes}
use Rattle.terms.specs.Refusals.{too_many_pages, sheet_too_long, no_record, page_too_large}
use Rattle.sheets.specs.Lines.{Lines, end, unclosed, line, lines}
use Rattle.traces.specs.Record.{Record, read, write, not_in_form, record_of}
use Rattle.traces.specs.Touch.{page_count, touched, touches_over}

-- What one line comes to: the pages that it yields, or the number of a refusal.
pub data Reading : Type 0 where
  yields : List ℕ → Reading
  wrong : ℕ → Reading

-- A record that counts, with n pages before it: "within one record 10, 11, 5".
unfoldable pub counted : ℕ → ℕ → ℕ → Reading
counted n lba size =
    if touches_over lba size then wrong page_too_large
    else if ltb most_pages (n + page_count lba size) then wrong too_many_pages
    else yields (touched lba size)

-- "Only reads count", and those of the unit; "all lines are judged for their form".
abbrev pub of_record : ℕ → ℕ → Record → Reading
of_record unit n (read of lba size) = if eqb of unit then counted n lba size else yields []
of_record unit n (write of lba size) = yields []
of_record unit n not_in_form = wrong no_record

unfoldable pub read_line : ℕ → ℕ → List ℕ → Reading
read_line unit n l = of_record unit n (record_of l)

pub data Pages : Type 0 where
  taken : List ℕ → Pages
  -- the refusal's number, and the line that decides it
  refused_at : ℕ → ℕ → Pages

abbrev pub yielded : Reading → List ℕ
yielded (yields pages) = pages
yielded (wrong number) = []

-- The reading of line k, and what the lines after it come to.
abbrev pub onto : ℕ → Reading → Pages → Pages
onto k (yields pages) (taken more) = taken (pages ++ more)
onto k (yields pages) (refused_at number at) = refused_at number at
onto k (wrong number) after = refused_at number k

-- k lines and n pages stand before these lines. "the last one without its line feed included"
abbrev pub pages_from : ℕ → ℕ → ℕ → Lines → Pages
pages_from unit k n end = taken []
pages_from unit k n unclosed = refused_at no_record (suc k)
pages_from unit k n (line l rest) =
    let r = read_line unit n l in onto (suc k) r (pages_from unit (suc k) (n + ∣ yielded r ∣) rest)

-- "At most 16,000 bytes .. from one call"
abbrev pub too_long : List ℕ → Bool
too_long s = ltb most_trace_bytes ∣ s ∣

unfoldable pub pages_of : ℕ → List ℕ → Pages
pages_of unit s = if too_long s then refused_at sheet_too_long 0 else pages_from unit 0 0 (lines s)
