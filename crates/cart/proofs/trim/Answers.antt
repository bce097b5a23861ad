-- The sum that the test compares is the definition's; `oldest` names the history that loses its head.
use Rattle.std.proofs.Common.{arith}
use Rattle.entries.proofs.Laid.{header}
use Rattle.cart.proofs.Trimming.{head_dropped, not_dropped}
use Rattle.cart.proofs.trim.Goals as goal

pub returns-then-k1-k2 : goal.returns-then-k1-k2
returns-then-k1-k2 c d is =
    let b = c.oldest-b in
    let h = header d c.args.dir.now is in
    head_dropped d b.result is b.ensures.0 c.drop_head.ensures (omega arith) (omega arith)

pub returns-else-k1-k2 : goal.returns-else-k1-k2
returns-else-k1-k2 c d is =
    let h = header d c.args.dir.now is in
    not_dropped d is (λ full. omega arith)
