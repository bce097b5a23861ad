-- A closed line, by the cursor; then its record, and whether it counts.
use Rattle.std.proofs.Common.{sym, ◌∙◌, arith}
use Rattle.lines.proofs.Cursor.{closed_line, missing_line}
use Rattle.council.proofs.Readings.{a_read, a_write, no-record, line_read, no_pages_read, missing_read}
use Rattle.council.proofs.record_lines.Trace.record_line.Goals as goal

pub returns-in_default : goal.returns-in_default
returns-in_default c = missing_read (omega arith) (missing_line _ _ (sym c.in_default.ensures))

pub returns-then-of-self : goal.returns-then-of-self
returns-then-of-self c =
    let closed = closed_line _ _ _ (sym c.in-Some.ensures) in
    let read = a_read c.args.self.unit c.args.before (omega arith) _ (rw c.in-Some-Read.field-0-is at c.in-Some-Read.ensures) in
    no_pages_read closed _ _ c.no_pages.ensures (omega arith) (read.does_not_count c.if-of-self.true)

pub returns-else-of-self : goal.returns-else-of-self
returns-else-of-self c =
    let closed = closed_line _ _ _ (sym c.in-Some.ensures) in
    let read = a_read c.args.self.unit c.args.before (omega arith) _ (rw c.in-Some-Read.field-0-is at c.in-Some-Read.ensures) in
    line_read closed _ _ _ (c.counted.ensures.tells ∙ read.counts c.if-of-self.false) c.counted.ensures.fits

pub returns-in-Some-Write : goal.returns-in-Some-Write
returns-in-Some-Write c =
    let closed = closed_line _ _ _ (sym c.in-Some.ensures) in
    no_pages_read closed _ _ c.no_pages-in-Some-Write.ensures (omega arith)
    (a_write c.args.self.unit c.args.before _ (rw c.in-Some-Write.field-0-is at c.in-Some-Write.ensures))

pub returns-in-None : goal.returns-in-None
returns-in-None c =
    let closed = closed_line _ _ _ (sym c.in-Some.ensures) in
    line_read closed _ _ _ (no-record c.args.self.unit c.args.before _ c.in-None.ensures) tt
