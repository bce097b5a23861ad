-- From word i on the words are those that the shift leaves; before it they are as they were.
use Rattle.std.proofs.Common.{◌≡◌, ◌≤◌, length}
use Rattle.entries.proofs.Shifts.{over, shifted}
use Rattle.entries.proofs.stretch.shift_in.Given as goal

abbrev pub invariant-loop-i : goal.invariant-loop-i
invariant-loop-i l =
    record {
      from_two : 2 ≤ l.i;
      within : l.i ≤ length l.fn.s;
      halves : l.s ≡ over l.fn.s (shifted l.page l.flags l.fn.s) l.i;
    }
