-- What `take_out` takes out is the head of list b, and the two zeros that it leaves are the words of one entry less.
use Rattle.entries.proofs.Changes.{head_dropped}
use Rattle.entries.proofs.lists.drop_head.Goals as goal

pub returns : goal.returns
returns c = search head_dropped
