-- A miss: what the evict part leaves is what place needs, and the answer is put together of both.
use Rattle.figures.specs.Words.{decode}
use Rattle.figures.specs.Cart.{evict}
use Rattle.figures.specs.Policy.{cart_policy}
use Rattle.engine.proofs.Placed.{tells_missed}
use Rattle.entries.specs.Holds.{Holds}
use Rattle.cart.proofs.Evicting.{opened}
use Rattle.cart.proofs.miss.Goals as goal

pub place-kind-requires-clause-freed : goal.place-kind-requires-clause-freed
place-kind-requires-clause-freed c = (opened c.requires c.evict-e.ensures).0

pub place-kind-requires-clause-counts_fit : goal.place-kind-requires-clause-counts_fit
place-kind-requires-clause-counts_fit c = (opened c.requires c.evict-e.ensures).1

pub returns : goal.returns
returns c =
    let z = evict (decode c.args.dir.now) in
    let e = c.evict-e in
    let placed = c.place-kind.ensures z e.ensures.evicted.shown e.ensures.short_is e.ensures.long_is in
    rw c.answer_of.ensures (tells_missed Holds cart_policy c.args.page z e.result.out e.ensures.evicted placed)
