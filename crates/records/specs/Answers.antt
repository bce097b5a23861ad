-- What the cases of each answer mean: the opcodes, records and units of the definitions.
-- None is a field that is no opcode, a line that is no record, a text that is no unit.
use Rattle.std.specs.Prelude.{ℕ, min, Option, Some, None}
use Rattle.traces.specs.Record as Line
use Rattle.traces.specs.Record.{reads, writes, unknown, read, write, not_in_form, unit, no_unit}
use Rattle.records.specs.declared.Opcode.{Opcode}
use Rattle.records.specs.declared.Record.{Record}

-- AN OPCODE

abbrev pub opcode_case : Option Opcode → Line.Opcode
opcode_case (Some Opcode.Reads) = reads
opcode_case (Some Opcode.Writes) = writes
opcode_case None = unknown

-- A RECORD

-- The number from which on the code tells none from a larger one.
abbrev pub beyond : ℕ
beyond = 35184372088832

abbrev pub up_to_beyond : Line.Record → Option Record
up_to_beyond (read of lba size) = Some (Record.Read (min beyond of) (min beyond lba) (min beyond size))
up_to_beyond (write of lba size) = Some Record.Write
up_to_beyond not_in_form = None

-- A UNIT

abbrev pub asked_case : Option ℕ → Line.Asked
asked_case (Some number) = unit number
asked_case None = no_unit
