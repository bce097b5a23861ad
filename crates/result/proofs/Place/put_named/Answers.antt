-- The name is put, and the number behind it.
use Rattle.result.proofs.Placing.{both}
use Rattle.result.proofs.Place.put_named.Goals as goal

pub returns : goal.returns
returns c = search both
