-- A fresh directory is made, and the run from it is accepted.
use Rattle.scoring.proofs.Fresh.{freshened, ran, ran_fresh}
use Rattle.scoring.proofs.replay.Goals as goal

pub unwrap-requires : goal.unwrap-requires
unwrap-requires c = freshened c.requires c.fresh.ensures

pub unwrap-requires-2 : goal.unwrap-requires-2
unwrap-requires-2 c = ran c.requires c.fresh.ensures c.run.ensures

pub returns : goal.returns
returns c = ran_fresh c.requires c.fresh.ensures c.run.ensures c.unwrap-2.ensures
