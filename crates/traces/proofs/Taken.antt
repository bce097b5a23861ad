-- What a trace comes to: at most 1,000 pages, each in range, or a refusal with a number.
-- Line by line, with the pages that stand before the line: those that it yields still fit.
use mathlib.Core.Path.{◌≡◌, refl, subst}
use mathlib.Core.Bool.{true, false}
use mathlib.Core.List.{List, [], ◌∷◌, ◌++◌}
use Prim.Native.Nat.{ℕ, zero, suc, ◌+◌, ◌-◌, ◌≤◌}
use native.Mathlib.Omega.{arith}
use lib.ListN.{length-append}
use lib.Dec.{ltb, eqb}
use borrow.Author.Tests.{ltb-false, eqb-false}
use borrow.Table.Steps.{cases}
use Rattle.terms.specs.Choice.{∣◌∣, all_at_most, numbers_from}
use Rattle.terms.proofs.Choice.{by_test, either}
use Rattle.terms.proofs.Tests.{reads}
use Rattle.sheets.specs.Lines.{Lines, end, unclosed, line, lines}
use Rattle.traces.specs.Record.{Record, read, write, not_in_form, record_of}
use Rattle.traces.specs.Touch.{first_page, last_page, page_count, touched, touches_over}
use Rattle.traces.specs.Trace.{Reading, yields, wrong, counted, of_record, read_line, yielded}
use Rattle.traces.specs.Trace.{Pages, taken, refused_at, onto, pages_from, too_long, pages_of}
use Rattle.traces.specs.Demands.{PagesInRange, RefusalsHaveNumbers}
use Rattle.traces.proofs.Touched.{counts_pages}

-- NUMBERS AT MOST m

module _ (m : ℕ) where
  numbers_at_most : (x n : ℕ) → x + n ≤ suc m → all_at_most m (numbers_from x n) ≡ true
  numbers_at_most x zero room = refl
  numbers_at_most x (suc n) room = simp reads (omega arith, numbers_at_most (suc x) n (omega arith))

  both_at_most : (s t : List ℕ) → all_at_most m s ≡ true → all_at_most m t ≡ true → all_at_most m (s ++ t) ≡ true
  both_at_most [] t h k = k
  both_at_most (x ∷ s) t h k = let said = simp reads at h in simp reads (said.0, both_at_most s t said.1 k)

-- THE PAGES OF A RECORD

-- The last of them is tested, so each is at most the largest that is allowed.
touched_at_most : (lba size : ℕ) → touches_over lba size ≡ false → all_at_most 4294967295 (touched lba size) ≡ true
unfolding touches_over touched page_count
touched_at_most lba size fits =
    cases (eqb size 0) (λ none. rw none) (λ some.
    let bytes = eqb-false size 0 some in
    let last = ltb-false 4294967295 (last_page lba size) (rw some at fits) in
    rw some (numbers_at_most 4294967295 (first_page lba) (last_page lba size - first_page lba + 1) (omega arith)))

-- LINE BY LINE

-- What n pages before them allow of pages.
abbrev PagesFit : ℕ → List ℕ → Type 0
PagesFit n pages = (n + ∣ pages ∣ ≤ 1000) × (all_at_most 4294967295 pages ≡ true)

abbrev OfReading : ℕ → Reading → Type 0
OfReading n (yields pages) = PagesFit n pages
OfReading n (wrong number) = 1 ≤ number

abbrev OfPages : ℕ → Pages → Type 0
OfPages n (taken pages) = PagesFit n pages
OfPages n (refused_at number at) = 1 ≤ number

of_counted : (n lba size : ℕ) → OfReading n (counted n lba size)
unfolding counted
of_counted n lba size =
    by_test (OfReading n) (touches_over lba size) (λ over. omega arith) (λ fits.
    by_test (OfReading n) (ltb 1000 (n + page_count lba size)) (λ many. omega arith) (λ few.
    (omega (arith, ltb-false, counts_pages lba size), touched_at_most lba size fits)))

of-record : (unit n : ℕ) (r : Record) → n ≤ 1000 → OfReading n (of_record unit n r)
of-record unit n (read of lba size) h = either (OfReading n) (eqb of unit) (of_counted n lba size) (omega arith, refl)
of-record unit n (write of lba size) h = (omega arith, refl)
of-record unit n not_in_form h = omega arith

of_line : (unit n : ℕ) (l : List ℕ) → n ≤ 1000 → OfReading n (read_line unit n l)
unfolding read_line
of_line unit n l h = of-record unit n (record_of l) h

of_onto : (k n : ℕ) (r : Reading) (after : Pages) → OfReading n r
    → (n + ∣ yielded r ∣ ≤ 1000 → OfPages (n + ∣ yielded r ∣) after) → OfPages n (onto k r after)
of_onto k n (yields pages) (taken more) h later =
    let rest = later h.0 in
    (omega (arith, length-append pages more), both_at_most 4294967295 pages more h.1 rest.1)
of_onto k n (yields pages) (refused_at number at) h later = later h.0
of_onto k n (wrong number) after h later = h

of_lines : (unit k n : ℕ) (ls : Lines) → n ≤ 1000 → OfPages n (pages_from unit k n ls)
of_lines unit k n end h = (omega arith, refl)
of_lines unit k n unclosed h = omega arith
of_lines unit k n (line l rest) h =
    let r = read_line unit n l in
    of_onto (suc k) n r (pages_from unit (suc k) (n + ∣ yielded r ∣) rest) (of_line unit n l h) (
    of_lines unit (suc k) (n + ∣ yielded r ∣) rest)

-- THE TRACE

of_trace : (unit : ℕ) (file : List ℕ) → OfPages 0 (pages_of unit file)
unfolding pages_of
of_trace unit file =
    either (OfPages 0) (too_long file) (omega arith) (of_lines unit 0 0 (lines file) (omega arith))

pub pages_in_range : PagesInRange
pages_in_range unit file pages is =
    let fit = subst (OfPages 0) is (of_trace unit file) in
    record { pages_at_most = omega arith; each_page_at_most = fit.1 }

pub refusals_have_numbers : RefusalsHaveNumbers
refusals_have_numbers unit file number at is = subst (OfPages 0) is (of_trace unit file)
