-- The library's method looks for the key as `starts` does.
use Rattle.std.proofs.Common.{◌∙◌}
use Rattle.text.proofs.Text.{starts_with-is}
use Rattle.text.proofs.starts_with.Goals as goal

pub returns : goal.returns
returns c = c.starts_with.ensures.value ∙ starts_with-is c.args.key.now c.args.bytes.now
