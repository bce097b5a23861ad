-- `serve` is called where the check's number is 0, so that the words are sound.
use Rattle.directory.proofs.Refused.{accepted_ready}
use Rattle.directory.proofs.request.Goals as goal

pub serve-served-requires : goal.serve-served-requires
serve-served-requires c = accepted_ready _ c.in_ok-check.ensures
