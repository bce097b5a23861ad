-- Line after line is put; there is room for each, as the part is as long as its lines together.
use Rattle.std.proofs.Common.{arith}
use Rattle.result.specs.Parts.{tally_lines}
use Rattle.result.proofs.Parts.{tally_room}
use Rattle.result.proofs.Placing.{both}
use Rattle.result.proofs.Place.put_tally.Goals as goal

pub put_line-requires : goal.put_line-requires
put_line-requires c = omega (arith, tally_room)

pub put_line-requires-2 : goal.put_line-requires-2
put_line-requires-2 c = omega (arith, tally_room)

pub put_line-requires-3 : goal.put_line-requires-3
put_line-requires-3 c = omega (arith, tally_room)

pub put_line-requires-4 : goal.put_line-requires-4
put_line-requires-4 c = omega (arith, tally_room)

pub put_line-requires-5 : goal.put_line-requires-5
put_line-requires-5 c = omega (arith, tally_room)

pub returns : goal.returns
unfolding tally_lines
returns c =
    both c.put_line.ensures
    (both c.put_line-2.ensures (both c.put_line-3.ensures (both c.put_line-4.ensures c.put_line-5.ensures)))
