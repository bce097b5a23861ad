-- A line more, and at the end none is left.
use Rattle.scoring.proofs.Lines.{goes-on, ends}
use Rattle.scoring.proofs.put_requests.Goals as goal

pub loop-i-preserved : goal.loop-i-preserved
loop-i-preserved c =
    goes-on c.args.out.now c.args.at c.args.pages.now c.args.answers.now
    c.loop-i.invariant c.loop-i-test.true c.put_request-next.ensures

pub returns : goal.returns
returns c =
    ends c.args.out.now c.args.at c.args.pages.now c.args.answers.now c.loop-i.invariant c.loop-i-test.false
