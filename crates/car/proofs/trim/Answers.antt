-- The sums that the tests compare are those of the definition, so that the same history loses its head, or none.
use Rattle.std.proofs.Common.{arith}
use Rattle.engine.proofs.CarTrim.{drops-b1, drops-b2, drops_none}
use Rattle.entries.specs.Holds.{Holds}
use Rattle.entries.proofs.Laid.{header}
use Rattle.car.proofs.trim.Goals as goal

pub returns-then-n1-k1 : goal.returns-then-n1-k1
returns-then-n1-k1 c d is =
    let h = header d c.args.dir.now is in
    drops-b1 Holds d (omega arith) (c.drop_head.ensures d is (omega arith))

pub returns-then-n1-n2 : goal.returns-then-n1-n2
returns-then-n1-n2 c d is =
    let h = header d c.args.dir.now is in
    drops-b2 Holds d (λ long. omega arith) (omega arith) (c.drop_head-then-n1-n2.ensures d is (omega arith))

pub returns-else-n1-n2 : goal.returns-else-n1-n2
returns-else-n1-n2 c d is =
    let h = header d c.args.dir.now is in drops_none Holds d (λ long. omega arith) (λ full. omega arith) is
