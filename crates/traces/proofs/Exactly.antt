-- A trace is taken where its lines are in the form and their pages are few and small enough, and nowhere else.
-- Line by line, with the pages that stand before the line.
use Rattle.std.specs.Prelude.{if◌then◌else◌}
use mathlib.Core.Path.{◌≡◌, refl, sym, ap, ◌∙◌}
use mathlib.Core.Bool.{Bool, true, false, true≢false}
use mathlib.Core.List.{List, [], ◌∷◌, ◌++◌}
use Prim.Native.Nat.{ℕ, zero, suc, ◌+◌, ◌≤◌, ◌<◌}
use native.Mathlib.Omega.{arith}
use lib.ListN.{get_or, length-append}
use lib.Dec.{ltb, eqb}
use borrow.Author.Tests.{ltb-true, ltb-false, le-ltb}
use borrow.Table.Steps.{cases}
use Rattle.terms.specs.Choice.{∣◌∣, all_at_most}
use Rattle.terms.proofs.Tests.{reads}
use Rattle.sheets.specs.Lines.{Lines, end, unclosed, line, lines}
use Rattle.traces.specs.Record.{Record, read, write, not_in_form, record_of}
use Rattle.traces.specs.Touch.{page_count, touched, touches_over}
use Rattle.traces.specs.Trace.{Reading, yields, wrong, counted, of_record, read_line, yielded}
use Rattle.traces.specs.Trace.{Pages, taken, refused_at, onto, pages_from, too_long, pages_of}
use Rattle.traces.specs.Demands.{of_read, of_reads, is_record, all_records, Good, TakenExactly}
use Rattle.traces.proofs.Touched.{touches_exactly, tests_over, counts_pages}
use Rattle.traces.proofs.Taken.{pages_in_range}

-- SMALL PAGES

at_most_in : (m : ℕ) (l : List ℕ) (i : ℕ) → all_at_most m l ≡ true → i < ∣ l ∣ → get_or l i 0 ≤ m
at_most_in m [] i all inside = absurd (omega arith)
at_most_in m (x ∷ l) zero all inside = let said = simp reads at all in omega arith
at_most_in m (x ∷ l) (suc i) all inside =
    let said = simp reads at all in at_most_in m l i said.1 (omega arith)

parts_at_most : (m : ℕ) (s t : List ℕ) → all_at_most m (s ++ t) ≡ true → (all_at_most m s ≡ true) × (all_at_most m t ≡ true)
parts_at_most m [] t all = (refl, all)
parts_at_most m (x ∷ s) t all =
    let said = simp reads at all in
    let rest = parts_at_most m s t said.1 in
    (simp reads (said.0, rest.0), rest.1)

-- A record whose pages are all small touches none that is too large.
not_over : (lba size : ℕ) → all_at_most 4294967295 (touched lba size) ≡ true → touches_over lba size ≡ false
not_over lba size all =
    cases (touches_over lba size)
    (λ is.
    let over = (tests_over lba size).0 is in
    let at = (touches_exactly lba size over.page).1 over.touches in
    let small = at_most_in 4294967295 (touched lba size) at.place all at.inside in
    absurd (omega (arith, over.over, at.there)))
    (λ isnt. isnt)

-- A LINE

-- A record whose pages are few and small enough yields them.
record_yields : (unit n : ℕ) (r : Record) → is_record r ≡ true → n + ∣ of_read unit r ∣ ≤ 1000
    → all_at_most 4294967295 (of_read unit r) ≡ true → of_record unit n r ≡ yields (of_read unit r)
unfolding counted
record_yields unit n (read of lba size) form few small = go (eqb of unit) few small
  where
    go : (t : Bool) → n + ∣ if t then touched lba size else [] ∣ ≤ 1000
        → all_at_most 4294967295 (if t then touched lba size else []) ≡ true
        → (if t then counted n lba size else yields []) ≡ yields (if t then touched lba size else [])
    go true few small =
        let room = le-ltb 1000 (n + page_count lba size) (omega (arith, counts_pages lba size)) in
        rw (not_over lba size small, room)
    go false few small = refl
record_yields unit n (write of lba size) form few small = refl
record_yields unit n not_in_form form few small = absurd (true≢false (sym form))

-- What a line yields is its record's.
record Yielded (unit : ℕ) (r : Record) (pages : List ℕ) : Type 0 where
  pub form : is_record r ≡ true
  pub pages_are : of_read unit r ≡ pages

yielded_by : (unit n : ℕ) (r : Record) (pages : List ℕ) → of_record unit n r ≡ yields pages → Yielded unit r pages
unfolding counted
yielded_by unit n (read of lba size) pages is = record { form = refl; pages_are = go (eqb of unit) is }
  where
    by_tests : (a b : Bool)
        → (if a then wrong 11 else if b then wrong 5 else yields (touched lba size)) ≡ yields pages
        → touched lba size ≡ pages
    by_tests true b is = let never : ◌≡◌ {A = ℕ} 0 1 = cc in absurd (omega arith)
    by_tests false true is = let never : ◌≡◌ {A = ℕ} 0 1 = cc in absurd (omega arith)
    by_tests false false is = cc

    go : (t : Bool) → (if t then counted n lba size else yields []) ≡ yields pages
        → (if t then touched lba size else []) ≡ pages
    go true is = by_tests (touches_over lba size) (ltb 1000 (n + page_count lba size)) is
    go false is = cc
yielded_by unit n (write of lba size) pages is = record { form = refl; pages_are = cc }
yielded_by unit n not_in_form pages is = let never : ◌≡◌ {A = ℕ} 0 1 = cc in absurd (omega arith)

-- THE LINES

lines_taken : (unit k n : ℕ) (ls : Lines) → all_records ls ≡ true → n + ∣ of_reads unit ls ∣ ≤ 1000
    → all_at_most 4294967295 (of_reads unit ls) ≡ true → pages_from unit k n ls ≡ taken (of_reads unit ls)
unfolding read_line
lines_taken unit k n end form few small = refl
lines_taken unit k n unclosed form few small = absurd (true≢false (sym form))
lines_taken unit k n (line l rest) form few small =
    let here = of_read unit (record_of l) in
    let said = simp reads at form in
    let both = parts_at_most 4294967295 here (of_reads unit rest) small in
    let long = length-append here (of_reads unit rest) in
    let yield = record_yields unit n (record_of l) said.0 (omega arith) both.0 in
    rw (yield, lines_taken unit (suc k) (n + ∣ here ∣) rest said.1 (omega arith) both.1)

-- What was taken of the lines is what their reads touch.
record Read (unit : ℕ) (ls : Lines) (pages : List ℕ) : Type 0 where
  pub form : all_records ls ≡ true
  pub pages_are : of_reads unit ls ≡ pages

taken_of : (unit k n : ℕ) (ls : Lines) (pages : List ℕ) → pages_from unit k n ls ≡ taken pages → Read unit ls pages
unfolding read_line
taken_of unit k n end pages is = record { form = refl; pages_are = cc }
taken_of unit k n unclosed pages is = let never : ◌≡◌ {A = ℕ} 0 1 = cc in absurd (omega arith)
taken_of unit k n (line l rest) pages is =
    let r = of_record unit n (record_of l) in
    go r refl (pages_from unit (suc k) (n + ∣ yielded r ∣) rest) refl is (λ m. taken_of unit (suc k) m rest)
  where
    go : (r : Reading) → of_record unit n (record_of l) ≡ r → (after : Pages)
        → pages_from unit (suc k) (n + ∣ yielded r ∣) rest ≡ after → onto (suc k) r after ≡ taken pages
        → ((m : ℕ) (more : List ℕ) → pages_from unit (suc k) m rest ≡ taken more → Read unit rest more)
        → Read unit (line l rest) pages
    go (yields here) reading (taken more) later is read-on =
        let first = yielded_by unit n (record_of l) here reading in
        let others = read-on (n + ∣ here ∣) more later in
        let all : here ++ more ≡ pages = cc in
        record {
          form = simp reads (first.form, others.form);
          pages_are = rw (first.pages_are, others.pages_are) all;
        }
    go (yields here) reading (refused_at number at) later is read-on =
        let never : ◌≡◌ {A = ℕ} 0 1 = cc in absurd (omega arith)
    go (wrong number) reading after later is read-on = let never : ◌≡◌ {A = ℕ} 0 1 = cc in absurd (omega arith)

-- THE TRACE

pub by_lines : (unit : ℕ) (file : List ℕ) → ∣ file ∣ ≤ 16000 → pages_of unit file ≡ pages_from unit 0 0 (lines file)
unfolding pages_of
by_lines unit file short =
    cases (too_long file) (λ long. absurd (omega (arith, ltb-true))) (λ fits. rw fits)

taken_is_short : (unit : ℕ) (file pages : List ℕ) → pages_of unit file ≡ taken pages → ∣ file ∣ ≤ 16000
unfolding pages_of
taken_is_short unit file pages is =
    cases (too_long file)
    (λ long. let refused = rw long at is in let never : ◌≡◌ {A = ℕ} 0 1 = cc in absurd (omega arith))
    (λ fits. omega (arith, ltb-false))

pub taken_exactly : TakenExactly
taken_exactly unit file pages = (is_good, good_taken)
  where
    is_good : pages_of unit file ≡ taken pages → Good unit file pages
    is_good is =
        let short = taken_is_short unit file pages is in
        let all = taken_of unit 0 0 (lines file) pages (sym (by_lines unit file short) ∙ is) in
        let range = pages_in_range unit file pages is in
        record {
          short = short;
          in-form = all.form;
          pages_are = all.pages_are;
          few = range.pages_at_most;
          small = range.each_page_at_most;
        }

    good_taken : Good unit file pages → pages_of unit file ≡ taken pages
    good_taken g =
        let same = g.pages_are in
        by_lines unit file g.short
        ∙ lines_taken unit 0 0 (lines file) g.in-form (omega (arith, ap ∣◌∣ same, g.few))
        (ap (all_at_most 4294967295) same ∙ g.small)
        ∙ ap taken same
