-- T2's head stands behind T1's tail, so that two lengths and one flag word are all that `t2_head_to_t1` changes.
use Rattle.std.proofs.Common.{arith}
use Rattle.entries.proofs.Changes.{border_moved}
use Rattle.entries.proofs.lists.t2_head_to_t1.Goals as goal

pub returns : goal.returns
returns c d is = border_moved d is (omega arith) (omega arith) c.cleared.ensures
