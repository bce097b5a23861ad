-- The first comma closes the first field; with no comma the line is its last.
use Rattle.std.proofs.Common.{◌+◌, arith}
use Rattle.sheets.proofs.Places.{bytes_from}
use Rattle.traces.proofs.Fields.{fields_closed, fields_last}
use Rattle.records.proofs.first_field.Goals as goal

pub returns-in_err-n : goal.returns-in_err-n
returns-in_err-n c = rw c.from_residual.ensures (fields_last c.args.line.now c.in_err-n.ensures)

pub returns : goal.returns
returns c =
    rw (bytes_from c.args.line.now (c.in_ok-n.n + 1), c.in_ok-n.ensures.0) (fields_closed c.args.line.now (omega arith))
