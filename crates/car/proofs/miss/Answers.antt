-- A miss: what the evict part leaves is what place needs, and the answer is put together of both.
use Rattle.figures.specs.Words.{decode}
use Rattle.figures.specs.Car.{evict}
use Rattle.figures.specs.Policy.{car_policy}
use Rattle.engine.proofs.Placed.{tells_missed}
use Rattle.entries.specs.Holds.{Holds}
use Rattle.car.proofs.Evicting.{opened}
use Rattle.car.proofs.miss.Goals as goal

pub place-kind-requires-clause-freed : goal.place-kind-requires-clause-freed
place-kind-requires-clause-freed c = (opened c.requires c.evict-out.ensures.shown).0

pub place-kind-requires-clause-t1_b1_fit : goal.place-kind-requires-clause-t1_b1_fit
place-kind-requires-clause-t1_b1_fit c = (opened c.requires c.evict-out.ensures.shown).1

pub returns : goal.returns
returns c =
    let z = evict (decode c.args.dir.now) in
    let placed = c.place-kind.ensures z c.evict-out.ensures.shown in
    rw c.answer_of.ensures (tells_missed Holds car_policy c.args.page z c.evict-out.result c.evict-out.ensures placed)
