-- A good line has a byte, its line feed, and counts its pages.
use Rattle.std.proofs.Common.{arith}
use Rattle.council.proofs.Listing.{counts_on}
use Rattle.council.proofs.count_pages.Goals as goal

pub loop-at-preserved : goal.loop-at-preserved
loop-at-preserved c =
    let h = c.in-Ok.ensures in
    record {
      inside = h.ahead.1;
      few_lines = omega (arith, h.ahead.0);
      few_pages = h.ahead.2;
      counting = counts_on c.loop-at.invariant.counting h;
    }
