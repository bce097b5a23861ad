-- The words of the request's answer stand where its line wants them, and the line in the 256 bytes from its place on.
use Rattle.std.proofs.Common.{arith}
use borrow.Author.Rules.{rules}
use Rattle.scoring.proofs.Lines.{line_written, line_put}
use Rattle.scoring.proofs.put_request.Goals as goal

pub unwrap-requires : goal.unwrap-requires
unwrap-requires c = line_written c.requires _ c.write_request.ensures

pub returns : goal.returns
returns c =
    line_put c.requires c.write_request.ensures c.unwrap.ensures (search rules) c.write_request.auto.out

pub overflow_add-result : goal.overflow_add-result
overflow_add-result c = let put = returns c in record { fits = omega (arith, put.not_far) }
