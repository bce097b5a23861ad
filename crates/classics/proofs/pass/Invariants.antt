-- Each turn leads the repeat on, with a set bit less; where the head's bit is clear it has passed.
use Rattle.figures.specs.Entry.{bits, total}
use Rattle.figures.specs.Words.{decode}
use Rattle.classics.specs.Queues.{Led}
use Rattle.classics.proofs.pass.Given as goal

abbrev pub invariant-loop-f : goal.invariant-loop-f
invariant-loop-f l = Led l.fn.dir l.hand l.dir

abbrev pub decreases-loop-f : goal.decreases-loop-f
decreases-loop-f l = total bits (decode l.dir).t1
