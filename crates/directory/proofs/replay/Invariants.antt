-- After i turns the run's first i answers are written, and what is left of the trace, from the words and the tally
-- then, comes to what the whole comes to.
use Rattle.directory.proofs.Replaying.{RunMidway}
use Rattle.directory.proofs.replay.Given as goal

abbrev pub invariant-loop-i : goal.invariant-loop-i
invariant-loop-i l = RunMidway l.initial.dir l.trace l.initial.answers l.i l.dir l.answers l.t
