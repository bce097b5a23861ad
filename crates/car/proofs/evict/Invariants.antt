-- The repeat goes on from where the looks have led to, and what it comes to from there it comes to from the start.
-- While it goes on, the moves are at most 1,024.
use Rattle.std.proofs.Common.{◌-◌}
use Rattle.car.specs.Looking.{GoesOn}
use Rattle.car.proofs.evict.Given as goal

abbrev pub invariant-loop-out : goal.invariant-loop-out
invariant-loop-out l = GoesOn l.initial.dir l.initial.hand l.dir l.hand

abbrev pub decreases-loop-out : goal.decreases-loop-out
decreases-loop-out l = 1025 - l.hand.moves
