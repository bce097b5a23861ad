-- A good line's pages are written behind the others.
use Rattle.std.proofs.Common.{arith}
use Rattle.terms.proofs.Rows.{numbers_length}
use Rattle.council.proofs.Listing.{writes_on}
use Rattle.council.proofs.fill.Goals as goal

pub loop-at-preserved : goal.loop-at-preserved
loop-at-preserved c =
    let good = c.in-Ok.ensures in
    let put = c.put_pages-written.ensures in
    record {
      few = omega (arith, put.next_is, numbers_length c.in-Ok.read.first c.in-Ok.read.count, good.ahead.2);
      writing = writes_on c.loop-at.invariant.writing good put;
    }
