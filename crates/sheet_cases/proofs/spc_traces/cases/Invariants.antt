-- Each case ends further on.
use Rattle.std.proofs.Common.{length, ◌-◌}
use Rattle.sheet_cases.proofs.spc_traces.cases.Given as goal

abbrev pub decreases-loop-end : goal.decreases-loop-end
decreases-loop-end g l = length l.file - l.at
