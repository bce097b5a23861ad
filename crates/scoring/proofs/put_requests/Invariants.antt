-- Line by line: what is left to put from here is the whole from the start.
use Rattle.std.proofs.Common.{length, ◌-◌}
use Rattle.scoring.proofs.Lines.{LedgerMidway}
use Rattle.scoring.proofs.put_requests.Given as goal

abbrev pub invariant-loop-i : goal.invariant-loop-i
invariant-loop-i l = LedgerMidway l.fn.out l.fn.at l.fn.pages l.fn.answers l.i l.out l.next

abbrev pub decreases-loop-i : goal.decreases-loop-i
decreases-loop-i l = length l.pages - l.i
