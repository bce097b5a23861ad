-- A look at a set bit turns the head, and the looks go on as the choice ensures; one at a clear bit is the last.
use Rattle.std.proofs.Common.{arith}
use Rattle.car.proofs.Heads.{room}
use Rattle.car.proofs.Looks.{Turned, look_again, look_stops}
use Rattle.car.proofs.Looking.{looks_after}
use Rattle.car.proofs.+choose_look.Goals as goal

pub look-choose-requires : goal.look-choose-requires
look-choose-requires t c =
    let p = c.requires in
    let turned : Turned c.args.dir.now c.args.hand c.move_head.new.dir =
    look_again p.turning p.i_chosen.0 p.i_chosen.1 c.start_of-at.ensures c.bit.result c.bit.ensures
    c.if-bit.true c.cleared.ensures c.move_head.ensures in
    (omega (arith, turned.fewer), (room turned.on.turning, rw c.turned.ensures turned.on.turning))

pub look-returns-then-bit : goal.look-returns-then-bit
look-returns-then-bit t c =
    let p = c.requires in
    let turned : Turned c.args.dir.now c.args.hand c.move_head.new.dir =
    look_again p.turning p.i_chosen.0 p.i_chosen.1 c.start_of-at.ensures c.bit.result c.bit.ensures
    c.if-bit.true c.cleared.ensures c.move_head.ensures in
    looks_after p.some_left turned.on c.choose.result c.choose.new.dir (rw c.turned.ensures at c.choose.ensures)

pub look-returns-else-bit : goal.look-returns-else-bit
look-returns-else-bit t c =
    let p = c.requires in
    rw c.moved-hand.ensures (
      look_stops p.turning p.i_chosen.0 p.i_chosen.1 c.start_of-at.ensures c.bit.result c.bit.ensures
          c.if-bit.false c.demoted.ensures c.move_head-else-bit.ensures,
      omega (arith, p.some_left),
    )
