-- No entry before i is for the page, so its index is i more than among the entries from i on.
use Rattle.std.proofs.Common.{◌≡◌, ◌+◌, List, length, drop}
use Rattle.figures.specs.Entry.{Entry}
use Rattle.entries.specs.Stretches.{index}
use Rattle.entries.proofs.Reading.{Held}
use Rattle.entries.proofs.search.find.Given as goal

abbrev pub invariant-loop-i : goal.invariant-loop-i
invariant-loop-i l =
    (all : List Entry) → Held l.dir l.a all → length all ≡ l.n
    → index l.page all ≡ l.i + index l.page (drop l.i all)
