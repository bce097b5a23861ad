-- The entry at a, its flags set, is the first of the words from a to e, which `turn` makes the last of them.
use Rattle.entries.proofs.Shifts.{carried}
use Rattle.entries.proofs.stretch.to_end.Goals as goal

pub returns : goal.returns
returns c = search carried
