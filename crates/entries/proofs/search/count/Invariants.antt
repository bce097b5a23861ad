-- The sum so far and the total of the entries from i on make what the list counts for by the flag.
use Rattle.std.proofs.Common.{◌≡◌, ◌+◌, ◌≤◌, List, length, drop}
use Rattle.figures.specs.Entry.{Entry, total}
use Rattle.entries.specs.Flags.{of_flag}
use Rattle.entries.proofs.Reading.{Held}
use Rattle.entries.proofs.search.count.Given as goal

abbrev pub invariant-loop-i : goal.invariant-loop-i
invariant-loop-i l =
    record {
      small : l.sum ≤ l.i;
      counted : (all : List Entry) → Held l.dir l.a all → length all ≡ l.n
          → total (of_flag l.flag) all ≡ l.sum + total (of_flag l.flag) (drop l.i all);
    }
