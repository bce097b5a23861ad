-- The word behind the head's page is its flags; that an empty list's length word is 0 says no flags.
use Rattle.std.proofs.Common.{arith}
use Rattle.entries.proofs.Heads.{flags_read}
use Rattle.cart.proofs.head_flags.Goals as goal

pub returns : goal.returns
returns c d is = flags_read {i = c.args.i} (omega arith) (omega arith) c.start_of-at.ensures d is
