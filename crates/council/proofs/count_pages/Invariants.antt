-- The pages counted and those of the lines from here on are the pages of the trace.
-- Every line has a byte, its line feed, so there are no more lines than bytes.
use Rattle.std.proofs.Common.{length, ◌-◌, ◌≤◌}
use Rattle.council.proofs.Listing.{Counting}
use Rattle.council.proofs.count_pages.Given as goal

abbrev pub invariant-loop-at : goal.invariant-loop-at
invariant-loop-at l =
    record {
      inside : l.at ≤ length l.trace.file.now;
      few_lines : l.line ≤ l.at;
      few_pages : l.count ≤ 1000;
      counting : Counting l.trace.file.now l.trace.unit l.at l.line l.count;
    }

abbrev pub decreases-loop-at : goal.decreases-loop-at
decreases-loop-at l = length l.trace.file.now - l.at
