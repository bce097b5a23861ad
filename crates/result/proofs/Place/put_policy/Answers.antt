-- The key, the name and a line feed are put, one after another.
use Rattle.result.proofs.Placing.{line_put}
use Rattle.result.proofs.Place.put_policy.Goals as goal

pub returns : goal.returns
returns c = search line_put
