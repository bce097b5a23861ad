-- What was read so far, the digit among it, is never more than what the whole comes to.
use Rattle.std.proofs.Common.{arith, ◌∙◌, ◌+◌, ◌-◌, ◌*◌, sym, slice_index_or, drop}
use Rattle.text.proofs.Worth.{value-from, value_grows}
use Rattle.text.proofs.digits.value_at_most.Goals as goal

pub returns-then-most-n : goal.returns-then-most-n
returns-then-most-n c =
    let s = c.args.text.now in
    let v = c.loop-digit in
    let read = 10 * v.n + (slice_index_or s v.digit-index 0 - 48) in
    omega (
      arith,
      value_grows read (drop (v.digit-index + 1) s),
      sym (value-from s v.digit-index c.loop-digit-test.true v.n) ∙ v.invariant.worth,
    )
