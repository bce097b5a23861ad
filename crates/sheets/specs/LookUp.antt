-- The look-up by line number: where in the sheet the value of a line stands.
-- "the bytes after the first `=` and before the line feed, as that stretch of the sheet itself"
use Rattle.std.specs.Prelude.{List, ℕ, zero, suc, ◌+◌, ltb, if◌then◌else◌}
use Rattle.terms.specs.Choice.{∣◌∣}
use Rattle.text.specs.Bytes.{index_of}
use Rattle.sheets.specs.Lines.{Lines, end, unclosed, line}

abbrev pub equals_sign : ℕ
equals_sign = 61

pub data Place : Type 0 where
  -- the stretch from one place of the sheet up to another
  between : ℕ → ℕ → Place
  -- "no such closed line, no `=`, or line 0"
  nowhere : Place

-- In a line that starts at place `at` of the sheet.
abbrev pub value_in : ℕ → List ℕ → Place
value_in at l =
    let n = index_of equals_sign l in
    if ltb n ∣ l ∣ then between (at + n + 1) (at + ∣ l ∣) else nowhere

-- In line n, from 1, of the lines that start at place `at` of the sheet. "It judges no key or value."
abbrev pub value_of : ℕ → ℕ → Lines → Place
value_of at zero ls = nowhere
value_of at (suc n) end = nowhere
value_of at (suc n) unclosed = nowhere
value_of at (suc zero) (line l rest) = value_in at l
value_of at (suc (suc n)) (line l rest) = value_of (at + ∣ l ∣ + 1) (suc n) rest
