-- What `put_in` puts in behind T1 pushes two of the zeros out, so that the words are those with the page at T1's tail.
use Rattle.std.proofs.Common.{arith}
use Rattle.entries.proofs.Changes.{new_at_tail}
use Rattle.entries.proofs.lists.place_new.Goals as goal

pub returns : goal.returns
returns c d is = new_at_tail d is c.requires.room_for_one c.start_of-a.ensures (omega arith) c.put_in.ensures
