-- A page that was not noted stands in no entry behind; of one that may have been, `find` tells.
use Rattle.std.proofs.Common.{◌+◌, drop, sym, ◌∙◌, arith}
use Rattle.entries.proofs.Reading.{held, entry_at}
use Rattle.differing.proofs.Pages.{unseen, searched, differ_here}
use Rattle.differing.proofs.stands_behind.Goals as goal

pub returns-then-may_have : goal.returns-then-may_have
returns-then-may_have c P R l is p q all =
    let i = c.args.i in
    let h = held P R is p in
    differ_here (entry_at h i (omega arith))
    (searched i _ c.find.result h q (omega arith) c.find.ensures (omega arith) (omega arith) ∙ sym c.is_some.ensures) (omega arith)

pub returns-else-may_have : goal.returns-else-may_have
returns-else-may_have c P R l is p q all =
    let i = c.args.i in
    differ_here (entry_at (held P R is p) i (omega arith))
    (unseen _ (drop (i + 1) l) all c.may_have.ensures c.if-may_have.false ∙ sym c.if-may_have.false) (omega arith)
