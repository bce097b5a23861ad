-- A sheet's lines: "each closed by one line feed".
-- Any bytes are lines: some closed ones, and then the end or bytes that no line feed closes.
use Rattle.std.specs.Prelude.{List, [], ◌∷◌, ℕ, drop, eqb, if◌then◌else◌}
use Rattle.terms.specs.Choice.{∣◌∣}
use Rattle.terms.specs.Refusals.{no_such_line}
use Rattle.text.specs.Text.{starts}
use Rattle.sheets.specs.Number.{Value, means, wrong}

abbrev pub line_feed : ℕ
line_feed = 10

pub data Lines : Type 0 where
  end unclosed : Lines
  line : List ℕ → Lines → Lines

-- Lines with one byte more in front.
abbrev pub behind : ℕ → Lines → Lines
behind b end = unclosed
behind b unclosed = unclosed
behind b (line l rest) = line (b ∷ l) rest

abbrev pub lines : List ℕ → Lines
lines [] = end
lines (b ∷ s) = if eqb b line_feed then line [] (lines s) else behind b (lines s)

-- What reading one line comes to: its value and the lines after it, or the number of a refusal.
pub data Reading : Type 0 where
  good : ℕ → Lines → Reading
  bad : ℕ → Reading

abbrev pub before : Value → Lines → Reading
before (means n) rest = good n rest
before (wrong number) rest = bad number

-- A line that has to start with a key; `meant` says what the bytes after the key mean.
-- "Within a line: 8, then .. the value"; 8 is "line without line feed, missing, or without its key".
abbrev pub under : List ℕ → (List ℕ → Value) → Lines → Reading
under key meant end = bad no_such_line
under key meant unclosed = bad no_such_line
under key meant (line l rest) = if starts key l then before (meant (drop ∣ key ∣ l)) rest else bad no_such_line
