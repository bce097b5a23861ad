-- The limits of document 01: how large a cache, a trace, a sheet may be, and how many bytes a result sheet is lent; and
-- of request 3 of 02: how long a council's trace may be, and how large a page number.
-- Each is decided here alone; code has them in src/limits.
use Rattle.std.specs.Prelude.{Bool, ◌&&◌, ℕ, leb}

-- "c, 1 to 1,024"
abbrev pub most_size : ℕ
most_size = 1024

abbrev pub known_size : ℕ → Bool
known_size c = leb 1 c && leb c most_size

-- "a trace of at most 1,000 pages"
abbrev pub most_pages : ℕ
most_pages = 1000

-- "A bid sheet, at most 16,000 bytes"
abbrev pub most_sheet_bytes : ℕ
most_sheet_bytes = 16000

-- "The result sheet is written into at least 256 lent bytes"
abbrev pub least_result_bytes : ℕ
least_result_bytes = 256

-- "At most 16,000 bytes .. come from one call" (request 3 of 02)
abbrev pub most_trace_bytes : ℕ
most_trace_bytes = 16000

-- "a page over 4,294,967,295" (request 3 of 02)
abbrev pub most_page : ℕ
most_page = 4294967295
