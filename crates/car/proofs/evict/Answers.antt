-- A turn of the loop asks the choice for so many looks, and what the repeat comes to is what the first hand comes to.
use Rattle.figures.specs.Words.{decode}
use Rattle.figures.specs.Hand.{begin}
use Rattle.engine.specs.Shown.{Counts}
use Rattle.car.proofs.Heads.{room}
use Rattle.car.proofs.Looking.{goes_on_here}
use Rattle.car.proofs.Evicting.{held, begins, evicted_as}
use Rattle.car.proofs.evict.Goals as goal

pub loop-out-init : goal.loop-out-init
loop-out-init c = goes_on_here (begins c.requires c.default-hand.ensures)

pub choose-requires-clause-room : goal.choose-requires-clause-room
choose-requires-clause-room c = room c.loop-out.invariant.turning

pub returns-in-Break : goal.returns-in-Break
returns-in-Break c =
    let z = begin 0 0 (decode c.args.dir.now) in
    let none : Counts z c.default-hand.result =
    record { moves_is = c.default-hand.ensures.0; cleared_is = c.default-hand.ensures.1 } in
    evicted_as c.requires (c.loop-out.invariant.rest c.in-Break.ensures.0 z (held c.requires).is none)
