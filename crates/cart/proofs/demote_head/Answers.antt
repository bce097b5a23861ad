-- The head's page and flags stand at the list's first two words, and its history is two lists further on.
use Rattle.cart.proofs.Words.{head_demoted}
use Rattle.cart.proofs.demote_head.Goals as goal

pub returns : goal.returns
returns c =
    let i = c.requires.clock_has_head in
    head_demoted i.0 i.1 c.start_of-at.ensures c.demoted-f.ensures c.move_head.ensures
