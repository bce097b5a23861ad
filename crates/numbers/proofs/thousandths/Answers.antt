-- Four digits are worth less than 10,000 and three less than 1,000, so the sum is below 10,000,000.
use Rattle.std.proofs.Common.{arith}
use Rattle.text.proofs.Worth.{value_below}
use Rattle.sheets.proofs.Forms.{thousandths_below}
use Rattle.numbers.proofs.thousandths.Goals as goal

pub overflow_mul-result : goal.overflow_mul-result
overflow_mul-result c =
    let four = c.requires.four_before in omega (arith, value_below 4 c.args.before.now four.1 four.0)

pub overflow_add-result : goal.overflow_add-result
overflow_add-result c =
    omega (arith, thousandths_below c.args.before.now c.args.after.now c.requires.four_before c.requires.three_after)

pub overflow_cast-result : goal.overflow_cast-result
overflow_cast-result c =
    omega (arith, thousandths_below c.args.before.now c.args.after.now c.requires.four_before c.requires.three_after)
