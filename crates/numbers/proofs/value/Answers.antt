-- Ten digits are worth at most 9,999,999,999, so nothing is cut off.
use Rattle.std.proofs.Common.{arith}
use Rattle.text.proofs.Worth.{value_below}
use Rattle.numbers.proofs.value.Goals as goal

pub returns : goal.returns
returns c = omega (arith, value_below 10 c.args.text.now c.requires.at_most_ten c.requires.digits)
