-- What the evict part leaves has room for the page, which is new, since nothing is remembered.
use Rattle.figures.specs.Words.{decode}
use Rattle.figures.specs.Classics.{clock_evict}
use Rattle.figures.specs.Policy.{clock_policy}
use Rattle.engine.proofs.Placed.{tells_missed}
use Rattle.entries.specs.Holds.{Holds}
use Rattle.classics.proofs.Forgetting.{room_for_page, placed_as_new}
use Rattle.classics.proofs.miss.Goals as goal

pub place_new-requires-clause-room : goal.place_new-requires-clause-room
place_new-requires-clause-room c = (room_for_page c.requires c.evict-out.ensures.shown).0

pub place_new-requires-clause-room_for_one : goal.place_new-requires-clause-room_for_one
place_new-requires-clause-room_for_one c = (room_for_page c.requires c.evict-out.ensures.shown).1

pub returns : goal.returns
returns c =
    let z = clock_evict (decode c.args.dir.now) in
    let evicted = c.evict-out.ensures in
    let placed = placed_as_new c.requires evicted.shown c.args.page c.place_new.ensures in
    rw c.answer_of.ensures (tells_missed Holds clock_policy c.args.page z c.evict-out.result evicted placed)
