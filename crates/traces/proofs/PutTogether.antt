-- A sheet put together with `cat`: behind a good sheet without pages, the page lines of a trace are its pages.
-- The lines of two texts, the first closed, are those of the first and then those of the second.
use Rattle.std.specs.Prelude.{if◌then◌else◌}
use mathlib.Core.Path.{◌≡◌, refl, ap, ◌∙◌}
use mathlib.Core.Bool.{Bool, true, false, false≢true}
use mathlib.Core.List.{List, [], ◌∷◌, ◌++◌}
use Prim.Native.Nat.{ℕ, suc, ◌+◌, ◌≤◌, ◌<◌}
use native.Mathlib.Omega.{arith}
use lib.ListN.{drop, length-append}
use lib.Seq.{append_snoc}
use lib.Dec.{eqb}
use borrow.Author.Tests.{lt-ltb, le-ltb, ne_eqb}
use borrow.Table.Steps.{cases}
use Rattle.terms.specs.Choice.{∣◌∣, all_at_most}
use Rattle.terms.specs.Limits.{most_sheet_bytes}
use Rattle.terms.specs.Policies.{cart}
use Rattle.terms.specs.Refusals.{no_such_line}
use Rattle.terms.proofs.Tests.{reads}
use Rattle.text.specs.Text.{bytes, starts}
use Rattle.text.specs.Digits.{all_digits}
use Rattle.sheets.specs.Number.{Value, means, wrong, whole, miss_cost}
use Rattle.sheets.specs.Lines.{Lines, end, unclosed, line, line_feed, behind, lines, Reading, good, bad, before, under}
use Rattle.sheets.specs.Bid.{Bid, Meaning, bid, refused, policy_value, policy_meant, policy_line, in_range, size_line}
use Rattle.sheets.specs.Bid.{cost_line, page_line}
use Rattle.sheets.specs.Bid.{Pages, listed, refused_at, onto, pages_from, with_pages, after_line, in_order, meaning_where}
use Rattle.sheets.specs.Result.{decimal, line_of}
use Rattle.sheets.proofs.Numbers.{digits_of, whole_back}
use Rattle.traces.specs.Refusals.{page_lines}
use Rattle.traces.specs.Demands.{with_trace, SheetsPutTogether}
use Rattle.traces.proofs.Taken.{pages_in_range}

-- LINES BEHIND LINES

abbrev is_closed : Lines → Bool
is_closed end = true
is_closed unclosed = false
is_closed (line l rest) = is_closed rest

-- Lines, and where they end, others.
abbrev followed : Lines → Lines → Lines
followed end after = after
followed unclosed after = unclosed
followed (line l rest) after = line l (followed rest after)

-- A byte in front closes no lines, and goes past those that follow.
record Moves (b : ℕ) (ls after : Lines) : Type 0 where
  pub closed : is_closed ls ≡ true
  pub moved : behind b (followed ls after) ≡ followed (behind b ls) after

behind_moves : (b : ℕ) (ls after : Lines) → is_closed (behind b ls) ≡ true → Moves b ls after
behind_moves b end after h = absurd (false≢true h)
behind_moves b unclosed after h = absurd (false≢true h)
behind_moves b (line l rest) after h = record { closed = h; moved = refl }

lines_followed : (s t : List ℕ) → is_closed (lines s) ≡ true → lines (s ++ t) ≡ followed (lines s) (lines t)
lines_followed [] t h = refl
lines_followed (b ∷ s) t h =
    cases (eqb b line_feed) (λ is. rw is (ap (line []) (lines_followed s t (rw is at h)))) (λ isnt.
    let moves = behind_moves b (lines s) (lines t) (rw isnt at h) in
    rw isnt (ap (behind b) (lines_followed s t moves.closed) ∙ moves.moved))

-- THE PAGE LINES

-- Digits and a line feed are a line.
digits_line : (s t : List ℕ) → all_digits s ≡ true → lines (s ++ (line_feed ∷ t)) ≡ line s (lines t)
digits_line [] t all = refl
digits_line (b ∷ s) t all =
    let said = simp reads at all in
    rw (ne_eqb b line_feed (omega arith)) (ap (behind b) (digits_line s t said.1))

page-line : (page : ℕ) (t : List ℕ) → page < 4294967296
    → lines (line_of (bytes "page=") (decimal page) ++ t) ≡ line (bytes "page=" ++ decimal page) (lines t)
page-line page t small =
    let all = (digits_of page (omega arith)).all_digits in
    rw (append_snoc (decimal page) line_feed t, digits_line (decimal page) t all)

page_read : (n page : ℕ) (rest : Lines) → n < 1000 → page < 4294967296
    → page_line n (line (bytes "page=" ++ decimal page) rest) ≡ good page rest
unfolding page_line
page_read n page rest few small = rw (lt-ltb n 1000 few, whole_back page small)

pages_read : (n : ℕ) (pages : List ℕ) → n + ∣ pages ∣ ≤ 1000 → all_at_most 4294967295 pages ≡ true
    → pages_from n (lines (page_lines pages)) ≡ listed pages
pages_read n [] few small = refl
pages_read n (page ∷ pages) few small =
    let said = simp reads at small in
    rw (
      page-line page (page_lines pages) (omega arith),
      page_read n page (lines (page_lines pages)) (omega arith) (omega arith),
      pages_read (suc n) pages (omega arith) said.1,
    )

-- THE SHEET

-- A refusal is no bid.
never : {A : Type 0} {number at : ℕ} {b : Bid} → refused number at ≡ bid b → A
never e = let no : ◌≡◌ {A = ℕ} 0 1 = cc in absurd (omega arith)

-- A bid with a line behind its first three has a page.
has_page : (policy c cost : ℕ) (r : Reading) (later : Pages) (b : Bid)
    → with_pages policy c cost (onto 0 r later) ≡ bid b → b.pages ≡ [] → ⊥
has_page policy c cost (good page rest) (listed pages) b is none = let no : ◌≡◌ {A = ℕ} 0 1 = cc in omega arith
has_page policy c cost (good page rest) (refused_at number at) b is none = never is
has_page policy c cost (bad number) later b is none = never is

module _ (pages : List ℕ) (after : Lines) (listing : pages_from 0 after ≡ listed pages) where
  -- What is read as a bid without pages is closed, and with the page lines behind it is the bid with the trace.
  abbrev TakesTrace : (Lines → Meaning) → Type 0
  TakesTrace read = (ls : Lines) (b : Bid) → read ls ≡ bid b → b.pages ≡ []
      → (is_closed ls ≡ true) × (read (followed ls after) ≡ bid (with_trace b pages))

  at_pages : (policy c cost : ℕ) → TakesTrace (λ ls. with_pages policy c cost (pages_from 0 ls))
  at_pages policy c cost end b is none = (refl, rw listing cc)
  at_pages policy c cost unclosed b is none =
      absurd (has_page policy c cost (page_line 0 unclosed) (listed []) b is none)
  at_pages policy c cost (line l rest) b is none =
      absurd (has_page policy c cost (page_line 0 (line l rest)) (pages_from 1 rest) b is none)

  at_line : (n : ℕ) (key : List ℕ) (meant : List ℕ → Value) (follows : ℕ → Lines → Meaning)
      → ((value : ℕ) → TakesTrace (follows value)) → TakesTrace (λ ls. after_line n (under key meant ls) follows)
  at_line n key meant follows later end b is none = never is
  at_line n key meant follows later unclosed b is none = never is
  at_line n key meant follows later (line l rest) b is none = go (starts key l) (meant (drop ∣ key ∣ l)) is
    where
      by_value : Bool → Value → Lines → Meaning
      by_value t v ls = after_line n (if t then before v ls else bad no_such_line) follows

      go : (t : Bool) (v : Value) → by_value t v rest ≡ bid b
          → (is_closed rest ≡ true) × (by_value t v (followed rest after) ≡ bid (with_trace b pages))
      go true (means value) is = later value rest b is none
      go true (wrong number) is = never is
      go false v is = never is

  in-order : (blankIs : Value) → TakesTrace (in_order blankIs)
  unfolding in_order policy_line size_line cost_line
  in-order blankIs =
      at_line 1 (bytes "policy=") (λ s. policy_meant blankIs (policy_value s)) _ (λ policy.
      at_line 2 (bytes "pages=") (λ s. in_range (whole s)) _ (λ c.
      at_line 3 (bytes "misscost=") miss_cost _ (λ cost.
      at_pages policy c cost)))

pub sheets_put_together : SheetsPutTogether
unfolding meaning_where
sheets_put_together head b unit file pages meant none is short =
    let fit = pages_in_range unit file pages is in
    let listing = pages_read 0 pages (omega arith) fit.each_page_at_most in
    let head-short = le-ltb most_sheet_bytes ∣ head ∣ (omega (arith, length-append head (page_lines pages))) in
    let in_lines = rw head-short at meant in
    let takes = in-order pages (lines (page_lines pages)) listing (means cart) (lines head) b in_lines none in
    rw (le-ltb most_sheet_bytes _ short, lines_followed head (page_lines pages) takes.0) takes.1
