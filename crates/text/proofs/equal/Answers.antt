-- The library's `==` compares as `same` does.
use Rattle.std.proofs.Common.{◌∙◌}
use Rattle.text.proofs.Text.{pointwise-is}
use Rattle.text.proofs.equal.Goals as goal

pub returns : goal.returns
returns c = c.eq.ensures ∙ pointwise-is c.args.bytes.now c.args.other.now
