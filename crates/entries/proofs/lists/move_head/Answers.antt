-- What `to_end` makes the last before the end of list j is the head of list i.
-- The lengths change only where the lists are two.
use Rattle.entries.proofs.Changes.{head_to_other_tail, head_to_own_tail}
use Rattle.entries.proofs.lists.move_head.Goals as goal

pub returns-then-i-j : goal.returns-then-i-j
returns-then-i-j c = search head_to_other_tail

pub returns-else-i-j : goal.returns-else-i-j
returns-else-i-j c = search head_to_own_tail
