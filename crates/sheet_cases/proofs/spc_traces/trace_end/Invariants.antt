-- Each closed line ends further on, within the file.
use Rattle.std.proofs.Common.{length, ◌-◌, ◌≤◌}
use Rattle.sheet_cases.proofs.spc_traces.trace_end.Given as goal

abbrev pub invariant-loop-end : goal.invariant-loop-end
invariant-loop-end l = record { from_start : l.start ≤ l.at; within : l.at ≤ length l.file }

abbrev pub decreases-loop-end : goal.decreases-loop-end
decreases-loop-end l = length l.file - l.at
