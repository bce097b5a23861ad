-- Part after part is put; there is room for each, as the line is as long as its parts together.
use Rattle.std.proofs.Common.{arith}
use Rattle.result.specs.Ledger.{request_line}
use Rattle.result.proofs.Ledger.{request_room}
use Rattle.result.proofs.Placing.{both}
use Rattle.result.proofs.Place.put_request.Goals as goal

pub put_named-requires : goal.put_named-requires
put_named-requires c = omega (arith, request_room)

pub put_named-requires-2 : goal.put_named-requires-2
put_named-requires-2 c = omega (arith, request_room)

pub put_named-requires-3 : goal.put_named-requires-3
put_named-requires-3 c = omega (arith, request_room)

pub put_named-requires-4 : goal.put_named-requires-4
put_named-requires-4 c = omega (arith, request_room)

pub put_named-requires-5 : goal.put_named-requires-5
put_named-requires-5 c = omega (arith, request_room)

pub put_line-requires : goal.put_line-requires
put_line-requires c = omega (arith, request_room)

pub returns : goal.returns
unfolding request_line
returns c =
    both c.put_named.ensures
    (both c.put_named-2.ensures
    (both c.put_named-3.ensures
    (both c.put_named-4.ensures (both c.put_named-5.ensures c.put_line.ensures))))
