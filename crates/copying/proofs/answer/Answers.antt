-- The copy as it was put, or the two lines over bytes that the refused copy left as they were.
use Rattle.std.proofs.Common.{arith}
use Rattle.copying.proofs.Printing.{copy_printed, refusal_printed}
use Rattle.copying.proofs.answer.Goals as goal

pub returns-in-Ok : goal.returns-in-Ok
returns-in-Ok c = copy_printed _ _ (omega arith) c.in-Ok.ensures

pub returns-in-Err : goal.returns-in-Err
returns-in-Err c = refusal_printed _ _ (omega arith) _ c.in-Err.ensures c.into.ensures c.write_refusal.ensures
