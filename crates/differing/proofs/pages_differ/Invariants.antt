-- The entries from i on have different pages, and all of these are noted.
use Rattle.std.proofs.Common.{◌≡◌, List, length}
use Rattle.figures.specs.Entry.{Entry}
use Rattle.entries.proofs.Reading.{Held}
use Rattle.differing.specs.Seen.{seen_words}
use Rattle.differing.proofs.Pages.{SeenFrom}
use Rattle.differing.proofs.pages_differ.Given as goal

abbrev pub invariant-loop-i : goal.invariant-loop-i
invariant-loop-i l =
    record {
      as_many : length l.noted ≡ seen_words;
      seen : (all : List Entry) → Held l.dir 8 all → length all ≡ l.n → SeenFrom all l.i l.noted;
    }
