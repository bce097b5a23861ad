-- The hand has passed over the set bits; the head is then read and dropped.
use Rattle.std.proofs.Common.{refl}
use Rattle.classics.proofs.Passing.{room}
use Rattle.classics.proofs.Forgetting.{evicted_as}
use Rattle.classics.proofs.evict.Goals as goal

pub drop_head-requires-clause-room : goal.drop_head-requires-clause-room
drop_head-requires-clause-room c = room c.pass.ensures.led

pub returns : goal.returns
returns c = evicted_as c.requires _ c.pass.ensures c.drop_head.ensures refl refl c.moved-hand.ensures
