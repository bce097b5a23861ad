-- The pages that a record touches: "every page it touches, lowest first, and none when its size is 0".
-- That these are the pages with a byte of the record in them is TouchesExactly of Demands.
use Rattle.std.specs.Prelude.{Bool, false, List, ℕ, ◌+◌, ◌-◌, ◌*◌, ◌/◌, ltb, eqb, if◌then◌else◌}
use Rattle.terms.specs.Choice.{numbers_from}
use Rattle.terms.specs.Limits.{most_page}

-- "Blocks are 512 bytes and pages 4,096"
abbrev pub block_bytes : ℕ
block_bytes = 512

abbrev pub page_bytes : ℕ
page_bytes = 4096

abbrev pub first_page : ℕ → ℕ
first_page lba = block_bytes * lba / page_bytes

-- Of a size that is not 0.
abbrev pub last_page : ℕ → ℕ → ℕ
last_page lba size = (block_bytes * lba + size - 1) / page_bytes

unfoldable pub page_count : ℕ → ℕ → ℕ
page_count lba size = if eqb size 0 then 0 else last_page lba size - first_page lba + 1

unfoldable pub touched : ℕ → ℕ → List ℕ
touched lba size = numbers_from (first_page lba) (page_count lba size)

-- "touches a page over 4,294,967,295"
unfoldable pub touches_over : ℕ → ℕ → Bool
touches_over lba size = if eqb size 0 then false else ltb most_page (last_page lba size)
