-- What the loop has led to is a queue with a head, and a turn over a set bit is one look of the repeat.
use Rattle.classics.proofs.Passing.{begins, room, passed, LedOn, led_on}
use Rattle.classics.proofs.pass.Goals as goal
use Rattle.classics.proofs.pass.Goals.{After-move_head}

-- A head whose bit is set has gone to the tail.
turned : (c : After-move_head) → LedOn c.args.dir.now c.loop-f.hand c.loop-f.dir c.move_head.new.dir
turned c =
    led_on c.loop-f.invariant c.bit.ensures c.loop-f-test.true c.cleared-f.ensures c.move_head.ensures

pub loop-f-init : goal.loop-f-init
loop-f-init c = begins c.requires c.default-hand.ensures

pub move_head-requires-clause-room : goal.move_head-requires-clause-room
move_head-requires-clause-room c = room c.loop-f.invariant

pub loop-f-smaller : goal.loop-f-smaller
loop-f-smaller c = (turned (goal.at.loop-f-smaller c).After-move_head).fewer

pub loop-f-preserved : goal.loop-f-preserved
loop-f-preserved c = rw c.turned-hand.ensures (turned (goal.at.loop-f-preserved c).After-move_head).led

pub returns : goal.returns
returns c = passed c.loop-f.invariant c.bit.ensures c.loop-f-test.false
