-- Reader, look-up, writer and copy as total functions: of any bytes and buffers, the answer and lent memory afterwards.
-- A refused call's answer is its number with zeros elsewhere (reader, copy: also the line), and all lent memory stays.
use Rattle.std.specs.Prelude.{not, List, ◌++◌, ℕ, drop, ltb, if◌then◌else◌}
use Rattle.terms.specs.Choice.{∣◌∣}
use Rattle.terms.specs.Limits.{most_pages, most_sheet_bytes, least_result_bytes}
use Rattle.terms.specs.Policies.{known_policy}
use Rattle.terms.specs.Refusals.{accepted, policy_not_known, buffer_too_short, sheet_too_long, no_such_line}
use Rattle.sheets.specs.Lines.{lines}
use Rattle.sheets.specs.Bid.{Meaning, bid, refused, meaning}
use Rattle.sheets.specs.LookUp.{Place, between, nowhere, value_of}
use Rattle.sheets.specs.Result.{Outcome, result_sheet}
use Rattle.sheets.specs.Copy.{Copy, copy, not_copied, copy_of}

-- What is written stands in front; later words stay.
abbrev pub over : List ℕ → List ℕ → List ℕ
over written buffer = written ++ drop ∣ written ∣ buffer

-- "The sheet reader answers policy, c, miss cost in thousandths and count of pages".
pub record Read : Type 0 where
  pub number : ℕ
  pub line : ℕ
  pub policy : ℕ
  pub c : ℕ
  pub cost : ℕ
  pub count : ℕ
  pub pages : List ℕ

abbrev pub answer : Meaning → List ℕ → Read
answer (bid b) buffer = record {
  number = accepted;
  line = 0;
  policy = b.policy;
  c = b.c;
  cost = b.cost;
  count = ∣ b.pages ∣;
  pages = over b.pages buffer;
}
answer (refused number line) buffer = record {
  number = number;
  line = line;
  policy = 0;
  c = 0;
  cost = 0;
  count = 0;
  pages = buffer;
}

-- "Sheet reader: 6, 7, then lines from the top."
unfoldable pub on_read : List ℕ → List ℕ → Read
on_read sheet buffer =
    if ltb ∣ buffer ∣ most_pages then answer (refused buffer_too_short 0) buffer
    else answer (meaning sheet) buffer

-- The look-up's number, and the stretch of the sheet that is its part: from 0 to 0 where it is refused.
pub record Found : Type 0 where
  pub number : ℕ
  pub start : ℕ
  pub stop : ℕ

abbrev pub found_at : Place → Found
found_at (between start stop) = record { number = accepted; start = start; stop = stop }
found_at nowhere = record { number = no_such_line; start = 0; stop = 0 }

-- "Look-up: 7, then 8 (no such closed line, no `=`, or line 0)."
unfoldable pub on_look_up : List ℕ → ℕ → Found
on_look_up sheet line =
    if ltb most_sheet_bytes ∣ sheet ∣ then record { number = sheet_too_long; start = 0; stop = 0 }
    else found_at (value_of 0 line (lines sheet))

pub record Written : Type 0 where
  pub number : ℕ
  pub count : ℕ
  pub out : List ℕ

-- "Result writer: 1, 6."
unfoldable pub on_write : Outcome → List ℕ → Written
on_write r out =
    if not (known_policy r.policy) then record { number = policy_not_known; count = 0; out = out }
    else if ltb ∣ out ∣ least_result_bytes then record { number = buffer_too_short; count = 0; out = out }
    else record { number = accepted; count = ∣ result_sheet r ∣; out = over (result_sheet r) out }

pub record Copied : Type 0 where
  pub number : ℕ
  pub line : ℕ
  pub count : ℕ
  pub out : List ℕ

abbrev pub copied_into : Copy → List ℕ → Copied
copied_into (copy s) out = record { number = accepted; line = 0; count = ∣ s ∣; out = over s out }
copied_into (not_copied number line) out = record { number = number; line = line; count = 0; out = out }

-- Too few bytes for any copy are 6, as with the reader's buffer; then the sheet decides.
unfoldable pub on_copy : List ℕ → List ℕ → Copied
on_copy sheet out =
    if ltb ∣ out ∣ most_sheet_bytes then copied_into (not_copied buffer_too_short 0) out
    else copied_into (copy_of sheet) out
