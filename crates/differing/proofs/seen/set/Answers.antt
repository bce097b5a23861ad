-- The word with the bit keeps its bits and gains this one; the other words stay.
use Rattle.std.proofs.Common.{◌%◌, arith}
use Rattle.differing.proofs.Bits.{or_left, or_right, one_shifted, bit-set}
use Rattle.differing.proofs.seen.set.Goals as goal

pub returns : goal.returns
returns c =
    let s = c.args in
    let one = one_shifted (s.place % 32) (omega arith) in
    bit-set s.seen.now s.place _ (omega arith) (λ k is. search or_left)
    (search (or_right, one))
