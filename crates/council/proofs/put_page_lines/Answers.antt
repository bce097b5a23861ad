-- A page's line has at most 16 bytes, for which there is room.
use Rattle.std.proofs.Common.{◌^◌, ◌<◌, get_or, arith}
use Rattle.council.proofs.PageLines.{room_for_line, goes-on}
use Rattle.council.proofs.put_page_lines.Goals as goal

pub put_line-requires : goal.put_line-requires
put_line-requires c =
    let page = c.loop-page.page-index in
    let small : get_or c.args.pages.now page 0 < 2 ^ 32 = omega (arith, c.type_inv.pages page) in
    room_for_line c.loop-page.invariant (omega arith) small (omega arith)

pub loop-page-preserved : goal.loop-page-preserved
loop-page-preserved c =
    let page = c.loop-page.page-index in
    let small : get_or c.args.pages.now page 0 < 2 ^ 32 = omega (arith, c.type_inv.pages page) in
    goes-on c.loop-page.invariant (omega arith) small c.put_line.ensures
