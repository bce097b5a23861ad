-- The pages that a record touches: they are those with a byte of it in them, lowest first, as many as are counted; and
-- the test for a page too large asks whether one of them is.
use mathlib.Core.Path.{◌≡◌}
use mathlib.Core.Bool.{true}
use mathlib.Core.Logic.{◌↔◌}
use Prim.Native.Nat.{ℕ, ◌+◌, ◌-◌, ◌*◌, ◌≤◌, ◌<◌, max}
use native.Mathlib.Omega.{arith}
use lib.ListN.{get_or}
use lib.Dec.{eqb}
use borrow.Author.Tests.{eqb-true, eqb-false, ne_eqb}
use Rattle.terms.specs.Choice.{∣◌∣}
use Rattle.terms.proofs.Choice.{by_test}
use Rattle.terms.proofs.Rows.{numbers_length, numbers_at}
use Rattle.terms.proofs.Tests.{reads}
use Rattle.traces.specs.Touch.{first_page, last_page, page_count, touched, touches_over}
use Rattle.traces.specs.Demands.{Touches, In, TouchesExactly, LowestFirst, Over, TestsOver, CountsPages}

pub counts_pages : CountsPages
unfolding touched
counts_pages lba size = numbers_length (first_page lba) (page_count lba size)

module _ (lba size i : ℕ) where
  -- The record has bytes, and has not ended where the page at place i starts.
  abbrev Reaches : Type 0
  Reaches = (1 ≤ size) × (4096 * (first_page lba + i) < 512 * lba + size)

  count_reaches : (i < page_count lba size) ↔ Reaches
  unfolding page_count
  count_reaches =
      by_test (λ (n : ℕ). (i < n) ↔ Reaches) (eqb size 0) (λ none. omega (arith, eqb-true size 0 none)) (λ some.
      omega (arith, eqb-false size 0 some))

  pages_reach : (i < ∣ touched lba size ∣) ↔ Reaches
  pages_reach = rw counts_pages count_reaches

  page_at : i < ∣ touched lba size ∣ → get_or (touched lba size) i 0 ≡ first_page lba + i
  unfolding touched
  page_at inside = numbers_at (first_page lba) (page_count lba size) i (omega (arith, counts_pages lba size))

pub lowest_first : LowestFirst
lowest_first lba size i j before inside = omega (arith, page_at lba size i (omega arith), page_at lba size j inside)

pub touches_exactly : TouchesExactly
touches_exactly lba size p = (has_byte, has_place)
  where
    -- The first byte of the record that is in the page.
    has_byte : In p (touched lba size) → Touches lba size p
    has_byte h =
        let at = page_at lba size h.place h.inside in
        let reaches = (pages_reach lba size h.place).0 h.inside in
        record {
          byte = max (512 * lba) (4096 * p);
          from_the_start = omega arith;
          before_the_end = omega arith;
          page_starts = omega arith;
          page_ends = omega arith;
        }

    has_place : Touches lba size p → In p (touched lba size)
    has_place h =
        let place = p - first_page lba in
        let inside = (pages_reach lba size place).1 (omega arith) in
        record { place = place; inside = inside; there = omega (arith, page_at lba size place inside) }

pub tests_over : TestsOver
unfolding touches_over
tests_over lba size = (has_page, is_over)
  where
    -- The page of the record's last byte.
    has_page : touches_over lba size ≡ true → Over lba size
    has_page h =
        let said = simp reads at h in
        let some = eqb-false size 0 said.0 in
        record {
          page = last_page lba size;
          over = said.1;
          touches = record {
            byte = 512 * lba + size - 1;
            from_the_start = omega arith;
            before_the_end = omega arith;
            page_starts = omega arith;
            page_ends = omega arith;
          };
        }

    is_over : Over lba size → touches_over lba size ≡ true
    is_over h = simp reads (ne_eqb size 0 (omega arith), omega arith)
