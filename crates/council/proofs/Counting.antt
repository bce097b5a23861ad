-- A record that counts, by the tests of the code: no bytes, a page too large, a page too many, or its pages.
-- Numbers that the code does not tell apart come to the same.
use mathlib.Core.Path.{◌≡◌, refl, sym, ◌∙◌}
use mathlib.Core.Bool.{false}
use mathlib.Core.List.{[]}
use Prim.Native.Nat.{ℕ, ◌+◌, ◌-◌, ◌≤◌, ◌<◌, min, max}
use native.Mathlib.Omega.{arith}
use lib.Dec.{eqb, leb}
use borrow.Author.Tests.{lt-ltb, le-ltb, ne_eqb, eqb-true, eqb-false, leb-true, leb-false}
use borrow.Table.Steps.{cases}
use Rattle.terms.specs.Choice.{numbers_from}
use Rattle.terms.specs.Limits.{most_page}
use Rattle.terms.specs.Refusals.{too_many_pages, page_too_large}
use Rattle.traces.specs.Touch.{first_page, last_page, page_count, touched, touches_over}
use Rattle.traces.specs.Trace.{yields, wrong, counted}
use Rattle.records.specs.Answers.{beyond}

pub in-order : (lba size : ℕ) → (size ≡ 0 → ⊥) → {first last : ℕ} → first ≡ first_page lba → last ≡ last_page lba size
    → first ≤ last
in-order lba size some first-is last-is = omega arith

module _ (n lba size : ℕ) where
  pub of_no_bytes : n ≤ 1000 → size ≡ 0 → yields [] ≡ counted n lba size
  unfolding counted touches_over page_count touched
  of_no_bytes few none = rw (none, le-ltb 1000 (n + 0) (omega arith))

  module _
      (some : size ≡ 0 → ⊥)
      {first last : ℕ}
      (first-is : first ≡ first_page lba)
      (last-is : last ≡ last_page lba size)
    where
      has_bytes : eqb size 0 ≡ false
      has_bytes = ne_eqb size 0 some

      pub of_page_too_large : most_page < last → wrong page_too_large ≡ counted n lba size
      unfolding counted touches_over
      of_page_too_large over = rw (has_bytes, sym last-is, lt-ltb most_page last over)

      module _ (fits : last ≤ most_page) where
        pub of_page_too_many : 1000 < n + (last - first + 1) → wrong too_many_pages ≡ counted n lba size
        unfolding counted touches_over page_count
        of_page_too_many many =
            rw (has_bytes, sym last-is, sym first-is, le-ltb most_page last fits, lt-ltb 1000 _ many)

        pub of_pages : n + (last - first + 1) ≤ 1000
            → yields (numbers_from first (last - first + 1)) ≡ counted n lba size
        unfolding counted touches_over page_count touched
        of_pages few = rw (has_bytes, sym last-is, sym first-is, le-ltb most_page last fits, le-ltb 1000 _ few)

-- The outcomes, for the code's tests.
pub ruleset by_tests = (of_no_bytes, of_page_too_large, of_page_too_many, of_pages)

-- NUMBERS THAT THE CODE DOES NOT TELL APART

module _ (n lba size : ℕ) where
  abbrev Alike : Type 0
  Alike = counted n (min beyond lba) (min beyond size) ≡ counted n lba size

  -- Of no bytes the LBA does not matter.
  no_bytes_alike : size ≡ 0 → Alike
  unfolding counted touches_over page_count touched
  no_bytes_alike none = rw none

  known_alike : lba ≤ beyond → size ≤ beyond → Alike
  known_alike lba_known size-known =
      let lba_is : min beyond lba ≡ lba = omega arith in
      let size_is : min beyond size ≡ size = omega arith in
      rw (lba_is, size_is)

  -- Beyond, a record with bytes reaches a page that is too large.
  beyond_alike : (size ≡ 0 → ⊥) → beyond < max lba size → Alike
  beyond_alike some large =
      sym (of_page_too_large n (min beyond lba) (min beyond size) (omega arith) refl refl (omega arith))
      ∙ of_page_too_large n lba size some refl refl (omega arith)

  pub counted_alike : Alike
  counted_alike =
      cases (eqb size 0) (λ none. no_bytes_alike (eqb-true size 0 none)) (λ some.
      cases (leb (max lba size) beyond)
      (λ known.
      let most = leb-true (max lba size) beyond known in known_alike (omega arith) (omega arith))
      (λ large. beyond_alike (eqb-false size 0 some) (leb-false (max lba size) beyond large)))
