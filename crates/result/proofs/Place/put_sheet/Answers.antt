-- Part after part is put; there is room for each, as the sheet is as long as its parts together.
use Rattle.std.proofs.Common.{arith}
use Rattle.result.proofs.Parts.{sheet_parts, sheet_room}
use Rattle.result.proofs.Placing.{both, put_as}
use Rattle.result.proofs.Place.put_sheet.Goals as goal

pub put_policy-requires : goal.put_policy-requires
put_policy-requires c = omega (arith, sheet_room)

pub put_line-requires : goal.put_line-requires
put_line-requires c = omega (arith, sheet_room)

pub put_tally-requires : goal.put_tally-requires
put_tally-requires c = omega (arith, sheet_room)

pub put_wait-requires : goal.put_wait-requires
put_wait-requires c = omega (arith, sheet_room)

pub returns : goal.returns
returns c =
    put_as (sheet_parts _)
    (both c.put_policy.ensures (both c.put_line.ensures (both c.put_tally.ensures c.put_wait.ensures)))
