-- Whether the page of entry i stands behind it once more, told only where all pages behind it were noted.
use Rattle.std.specs.Prelude.{◌≡◌, Bool, false, List, ℕ, ◌+◌, drop, if◌then◌else◌}
use Rattle.figures.specs.Entry.{differ}
use Rattle.entries.specs.Leaves.{OfEntries}
use Rattle.differing.specs.Seen.{AllNoted}

abbrev pub LookedBehind : List ℕ → ℕ → ℕ → List ℕ → Bool → Type 0
LookedBehind w n i seen r =
    OfEntries w 8 n
    (λ l. AllNoted (drop (i + 1) l) seen → differ (drop i l) ≡ (if r then false else differ (drop (i + 1) l)))
