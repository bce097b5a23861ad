-- `replay` is called where the check's number is 0, so that the words are sound.
use Rattle.directory.proofs.Refused.{accepted_ready}
use Rattle.directory.proofs.run.Goals as goal

pub replay-requires-clause-ready : goal.replay-requires-clause-ready
replay-requires-clause-ready c = accepted_ready _ c.in_ok-check.ensures
