-- The key, the wait and a line feed are put, one after another.
use Rattle.result.proofs.Placing.{line_put}
use Rattle.result.proofs.Place.put_wait.Goals as goal

pub returns : goal.returns
returns c = search line_put
