-- A record of a trace: "Five fields are required, in this order; any number of further fields may follow".
-- A line is a read or a write, or it is not in the council's form.
use Rattle.std.specs.Prelude.{Bool, false, List, [], ◌∷◌, ℕ, ◌+◌, take, drop, leb, if◌then◌else◌}
use Rattle.terms.specs.Choice.{∣◌∣, every, same}
use Rattle.text.specs.Bytes.{index_of}
use Rattle.text.specs.Text.{bytes}
use Rattle.text.specs.Digits.{all_digits, value}
use Rattle.traces.specs.Fields.{Fields, field, last, fields, first}

-- A read or a write has its unit, its LBA and its size.
pub data Record : Type 0 where
  read write : ℕ → ℕ → ℕ → Record
  not_in_form : Record

-- "an integer is one or more decimal digits and nothing else": leading zeros are good, and so is any length.
unfoldable pub is_integer : List ℕ → Bool
is_integer s = if leb 1 ∣ s ∣ then all_digits s else false

-- "an integer part and a fractional part, both present, a point between them"
abbrev pub point : ℕ
point = 46

abbrev pub before_point : List ℕ → List ℕ
before_point s = take (index_of point s) s

abbrev pub after_point : List ℕ → List ℕ
after_point s = drop (index_of point s + 1) s

unfoldable pub is_timestamp : List ℕ → Bool
is_timestamp s = if is_integer (before_point s) then is_integer (after_point s) else false

-- "one letter, in either case: R or r a read, W or w a write"
pub data Opcode : Type 0 where
  reads writes unknown : Opcode

abbrev pub opcode : List ℕ → Opcode
opcode s =
    if same s (bytes "R") then reads
    else if same s (bytes "r") then reads
    else if same s (bytes "W") then writes
    else if same s (bytes "w") then writes
    else unknown

abbrev pub by_opcode : Opcode → ℕ → ℕ → ℕ → Record
by_opcode reads unit lba size = read unit lba size
by_opcode writes unit lba size = write unit lba size
by_opcode unknown unit lba size = not_in_form

abbrev pub in_form : List ℕ → List ℕ → List ℕ → List ℕ → Bool
in_form unit lba size timestamp =
    every (is_integer unit ∷ is_integer lba ∷ is_integer size ∷ is_timestamp timestamp ∷ [])

-- The five fields: unit, LBA, size, opcode, timestamp.
unfoldable pub record_from : List ℕ → List ℕ → List ℕ → List ℕ → List ℕ → Record
record_from unit lba size letter timestamp =
    if in_form unit lba size timestamp then by_opcode (opcode letter) (value unit) (value lba) (value size)
    else not_in_form

-- Fewer than five are no record; what follows the fifth is not looked at.
abbrev pub of_fields : Fields → Record
of_fields (field unit (field lba (field size (field letter rest)))) = record_from unit lba size letter (first rest)
of_fields (field unit (field lba (field size (last letter)))) = not_in_form
of_fields (field unit (field lba (last size))) = not_in_form
of_fields (field unit (last lba)) = not_in_form
of_fields (last unit) = not_in_form

abbrev pub record_of : List ℕ → Record
record_of l = of_fields (fields l)

-- A unit as it is asked for, "an argument that is no unit number" among what is given: an integer, of a value that a
-- 32-bit number holds.
pub data Asked : Type 0 where
  unit : ℕ → Asked
  no_unit : Asked

unfoldable pub asked : List ℕ → Asked
asked s = if is_integer s then (if leb (value s) 4294967295 then unit (value s) else no_unit) else no_unit
