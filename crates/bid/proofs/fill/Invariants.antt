-- The pages written, and those of the lines from here on, are the pages of all page lines.
use Rattle.std.proofs.Common.{length, ◌-◌, ◌≡◌, ◌≤◌}
use Rattle.bid.proofs.Listing.{Writing}
use Rattle.bid.proofs.fill.Given as goal

abbrev pub invariant-loop-at : goal.invariant-loop-at
invariant-loop-at l =
    record {
      few : l.count ≤ 1000;
      as_long : length l.pages ≡ length l.fn.pages;
      writing : Writing l.sheet l.start l.fn.pages l.at l.count l.pages;
    }

abbrev pub decreases-loop-at : goal.decreases-loop-at
decreases-loop-at l = length l.sheet - l.at
