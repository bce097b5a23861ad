-- The accounts hold, what is left of the repeat from here is what is left from the start, and f are T1's head's flags.
-- The measure is the moves that are left: the accounts bound them, and every look costs one.
use Rattle.std.proofs.Common.{◌-◌}
use Rattle.figures.specs.Cart as Cart
use Rattle.engine.specs.Passes.{Passing}
use Rattle.engine.proofs.Passes.{Underway}
use Rattle.entries.specs.Holds.{Holds}
use Rattle.cart.specs.Passing.{HeadFlags}
use Rattle.cart.proofs.second_pass.Given as goal

abbrev pub invariant-loop-dir : goal.invariant-loop-dir
invariant-loop-dir l =
    record {
      passing : Passing Holds l.dir l.now;
      underway : Underway Holds Cart.second_look l.initial.dir l.initial.now l.dir l.now;
      of_head : HeadFlags 0 l.f l.dir;
    }

abbrev pub decreases-loop-dir : goal.decreases-loop-dir
decreases-loop-dir l = 2048 - l.now.hand.moves
