-- The line has room, as it is at most 256 bytes long.
use Rattle.std.proofs.Common.{rules, arith}
use Rattle.result.proofs.Ledger.{request_fits}
use Rattle.result.proofs.Refused.{text_written}
use Rattle.result.proofs.write_request.Goals as goal

pub put_request-requires : goal.put_request-requires
put_request-requires c =
    let a = c.args.request in
    let most = request_fits a.request a.page a.kind a.evicted a.list a.moves
    (omega arith) (omega arith) (omega arith) (omega arith) (omega arith) (omega arith) in
    omega arith

pub returns : goal.returns
returns c = search (rules, text_written)
