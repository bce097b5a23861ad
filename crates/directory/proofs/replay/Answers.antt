-- Each turn takes the run one request further, and at the end of the trace it is the whole run.
use Rattle.std.proofs.Common.{arith}
use Rattle.directory.proofs.Replaying.{goes_on, ends}
use Rattle.directory.proofs.replay.Goals as goal

pub loop-i-preserved : goal.loop-i-preserved
loop-i-preserved c = goes_on _ _ _ c.loop-i.invariant (omega arith) (omega arith) c.step-t.ensures

pub returns : goal.returns
returns c = ends _ _ _ c.loop-i.invariant (omega arith)
