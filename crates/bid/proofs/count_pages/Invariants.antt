-- The pages counted and those of the lines from here on are the pages of all page lines.
use Rattle.std.proofs.Common.{length, ◌-◌, ◌≤◌}
use Rattle.bid.proofs.Listing.{Reading}
use Rattle.bid.proofs.count_pages.Given as goal

abbrev pub invariant-loop-at : goal.invariant-loop-at
invariant-loop-at l = record { few : l.count ≤ 1000; read : Reading l.sheet l.start l.at l.count }

abbrev pub decreases-loop-at : goal.decreases-loop-at
decreases-loop-at l = length l.sheet - l.at
