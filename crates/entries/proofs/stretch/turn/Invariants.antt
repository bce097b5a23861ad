-- After i turns of the loop the first i words are those from 2 on.
use Rattle.std.proofs.Common.{◌≡◌, ◌+◌, ◌-◌, ◌≤◌, length}
use Rattle.entries.proofs.Shifts.{moved}
use Rattle.entries.proofs.stretch.turn.Given as goal

abbrev pub invariant-loop-i : goal.invariant-loop-i
invariant-loop-i l =
    record {
      within : l.i ≤ l.m;
      two_left : l.m + 2 ≡ length l.fn.s;
      turned : l.s ≡ moved l.fn.s l.i;
    }
