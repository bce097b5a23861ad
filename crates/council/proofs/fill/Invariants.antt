-- The pages written, and those of the lines from here on, are the pages of the trace.
use Rattle.std.proofs.Common.{length, ◌-◌, ◌≤◌}
use Rattle.council.proofs.Listing.{Writing}
use Rattle.council.proofs.fill.Given as goal

abbrev pub invariant-loop-at : goal.invariant-loop-at
invariant-loop-at l =
    record {
      few : l.written ≤ 1000;
      writing : Writing l.trace.file.now l.trace.unit l.at l.written l.fn.pages l.pages;
    }

abbrev pub decreases-loop-at : goal.decreases-loop-at
decreases-loop-at l = length l.trace.file.now - l.at
