-- The entry stands first in the words from a to e, and the last two of them fall out.
use Rattle.entries.proofs.Shifts.{pushed}
use Rattle.entries.proofs.stretch.put_in.Goals as goal

pub returns : goal.returns
returns c = search pushed
