-- Request 2 of 02: which sheets mean what they meant, what changes where the policy is blank, and what a copy means.
-- What a blank is, is a parameter of the reading: the laws compare any two, and only the promises name car and cart.
use Rattle.std.specs.Prelude.{if◌then◌else◌}
use mathlib.Core.Path.{◌≡◌, refl, sym, ap, ap₂, subst, ◌∙◌}
use mathlib.Core.Bool.{Bool, true, false, true≢false}
use mathlib.Core.List.{List, [], ◌∷◌, ◌++◌}
use Prim.Native.Nat.{ℕ, ◌+◌, ◌≤◌, ◌<◌}
use native.Mathlib.Omega.{arith}
use lib.Dec.{eqb}
use borrow.Author.Tests.{ltb-true, ltb-false, le-ltb}
use borrow.Table.Steps.{cases}
use Rattle.terms.specs.Choice.{∣◌∣, same}
use Rattle.terms.specs.Limits.{most_sheet_bytes}
use Rattle.terms.specs.Policies.{Named, car, cart, policies}
use Rattle.terms.proofs.Choice.{by_test, either}
use Rattle.text.specs.Text.{bytes, starts}
use Rattle.text.proofs.Text.{starts_splits}
use Rattle.sheets.specs.Number.{Value, means}
use Rattle.sheets.specs.Lines.{Lines, end, unclosed, line, line_feed, behind, lines}
use Rattle.sheets.specs.Lines.{Reading, good, bad, before, under}
use Rattle.sheets.specs.Bid.{Meaning, bid, refused, named_in, policy_value, policy_meant, policy_line, Pages, listed, refused_at}
use Rattle.sheets.specs.Bid.{with_pages, after_line, in_order, meaning_where, meaning, filed_meaning}
use Rattle.sheets.specs.Copy.{blank_policy, with_car, car_where_blank, copy, not_copied, too_long, copy_if, copy_of}
use Rattle.sheets.specs.Demands.{NamedMeanTheSame, under_policy, BlanksTurn, RefusalsStay, CopiesMeanTheSame}
use Rattle.sheets.specs.Demands.{NamedUnchanged, GoodSheetsCopied, BlanksWritten, CopiedOnce, NotCopiedHasNumber}
use Rattle.sheets.proofs.Bids.{refusal_has_number, bid_is_short}

-- A POLICY THAT IS NOT BLANK

-- Two meanings that agree on every value but a blank one read a line alike, unless it is the key alone.
module _ (f g : List ℕ → Value) (agree : (b : ℕ) (s : List ℕ) → f (b ∷ s) ≡ g (b ∷ s)) where
  abbrev Alike : List ℕ → Lines → Type 0
  Alike key ls = under key f ls ≡ under key g ls

  alike_behind : (b : ℕ) (ls : Lines) → Alike [] (behind b ls)
  alike_behind b end = refl
  alike_behind b unclosed = refl
  alike_behind b (line l rest) = ap (λ v. before v rest) (agree b l)

  -- By the key's first byte and the line's.
  by_first : (k b : ℕ) (key : List ℕ) (ls : Lines) → (eqb b k ≡ true → Alike key ls) → Alike (k ∷ key) (behind b ls)
  by_first k b key end later = refl
  by_first k b key unclosed later = refl
  by_first k b key (line l rest) later = cases (eqb b k) (λ is. rw is (later is)) (λ isnt. rw isnt)

  read_alike : (key s : List ℕ) → starts (key ++ (line_feed ∷ [])) s ≡ false → Alike key (lines s)
  read_alike key [] isnt = refl
  read_alike [] (b ∷ s) isnt =
      by_test (Alike []) (eqb b line_feed) (λ is. absurd (true≢false (rw is at isnt))) (λ no. alike_behind b (lines s))
  read_alike (k ∷ key) (b ∷ s) isnt =
      either (Alike (k ∷ key)) (eqb b line_feed) refl
      (by_first k b key (lines s) (λ is. read_alike key s (rw is at isnt)))

module _ (new old : Value) where
  -- No name of the list is the blank one.
  name_stays : (l : List Named) (s : List ℕ) → policy_meant new (named_in l s) ≡ policy_meant old (named_in l s)
  name_stays [] s = refl
  name_stays (p ∷ l) s =
      either (λ v. policy_meant new v ≡ policy_meant old v) (same s (bytes p.name)) refl (name_stays l s)

  policy_stays : (s : List ℕ) → blank_policy s ≡ false → policy_line new (lines s) ≡ policy_line old (lines s)
  unfolding policy_line
  policy_stays =
      read_alike (λ s. policy_meant new (policy_value s)) (λ s. policy_meant old (policy_value s)) (λ b s. name_stays policies (b ∷ s)) (bytes "policy=")

  named_stays : (s : List ℕ) → blank_policy s ≡ false → meaning_where new s ≡ meaning_where old s
  unfolding meaning_where in_order
  named_stays s isnt = rw (policy_stays s isnt)

pub named_means_the_same : NamedMeanTheSame
named_means_the_same = named_stays (means cart) (means car)

-- A BLANK POLICY

-- What holds of the key and its line feed, whatever is behind them, holds of every sheet whose policy is blank.
of_blank : (P : List ℕ → Type 0) → ((rest : List ℕ) → P (bytes "policy=\n" ++ rest))
    → (s : List ℕ) → blank_policy s ≡ true → P s
of_blank P each s is = subst P (sym (starts_splits (bytes "policy=\n") s is)) (each _)

-- Another policy goes past the tests and the readings to the bid.
module _ (new : ℕ) where
  past_choice : (t : Bool) (m n : Meaning)
      → under_policy new (if t then m else n) ≡ (if t then under_policy new m else under_policy new n)
  past_choice true m n = refl
  past_choice false m n = refl

  past_line : (n : ℕ) (r : Reading) (follows : ℕ → Lines → Meaning)
      → under_policy new (after_line n r follows) ≡ after_line n r (λ value rest. under_policy new (follows value rest))
  past_line n (good value rest) follows = refl
  past_line n (bad number) follows = refl

  past_pages : (old c cost : ℕ) (ps : Pages) → under_policy new (with_pages old c cost ps) ≡ with_pages new c cost ps
  past_pages old c cost (listed pages) = refl
  past_pages old c cost (refused_at number at) = refl

  blank_turned : (old : ℕ) (s : List ℕ) → blank_policy s ≡ true
      → meaning_where (means new) s ≡ under_policy new (meaning_where (means old) s)
  unfolding meaning_where in_order policy_line
  blank_turned old =
      of_blank (λ s. meaning_where (means new) s ≡ under_policy new (meaning_where (means old) s)) (λ rest.
      simp (past_choice, past_line, past_pages))

pub blank_turns : BlanksTurn
blank_turns s is = record { was_car = blank_turned car car s is; is_cart = blank_turned cart car s is }

-- A REFUSAL

refusal_stays : (new old : ℕ) (s : List ℕ) (number at : ℕ) → meaning_where (means old) s ≡ refused number at
    → meaning_where (means new) s ≡ refused number at
refusal_stays new old s number at is =
    cases (blank_policy s) (λ blank. blank_turned new old s blank ∙ ap (under_policy new) is) (λ named.
    named_stays (means new) (means old) s named ∙ is)

pub refused_not_copied : (s : List ℕ) (number at : ℕ) → filed_meaning s ≡ refused number at
    → copy_of s ≡ not_copied number at
unfolding copy_of
refused_not_copied s number at is = rw is

pub refusals_stay : RefusalsStay
refusals_stay s number at = record {
  as_filed = refusal_stays car cart s number at;
  as_now = refusal_stays cart car s number at;
  as_copied = λ is. refused_not_copied s number at (refusal_stays car cart s number at is);
}

-- THE COPY

-- What is copied is written whole, and is not too long.
record Copied (s t : List ℕ) : Type 0 where
  pub is_written : t ≡ car_where_blank s
  pub is-short : ∣ car_where_blank s ∣ ≤ most_sheet_bytes

-- A refusal is no copy.
never : {A : Type 0} {number at : ℕ} {t : List ℕ} → not_copied number at ≡ copy t → A
never e = let no : ◌≡◌ {A = ℕ} 0 1 = cc in absurd (omega arith)

copied_so : (s t : List ℕ) → copy_of s ≡ copy t → Copied s t
unfolding copy_of
copied_so s t = go (filed_meaning s)
  where
    go : (m : Meaning) → copy_if m (car_where_blank s) ≡ copy t → Copied s t
    go (bid b) =
        by_test (λ c. c ≡ copy t → Copied s t) (too_long (car_where_blank s)) (λ long. never) (λ short e.
        record { is_written = cc; is-short = omega (arith, ltb-false) })
    go (refused number at) = never

named_kept : (s : List ℕ) → blank_policy s ≡ false → car_where_blank s ≡ s
named_kept s isnt = rw isnt

pub named_unchanged : NamedUnchanged
named_unchanged s t isnt e = (copied_so s t e).is_written ∙ named_kept s isnt

three_bytes_more : (s : List ℕ) → blank_policy s ≡ true → ∣ with_car s ∣ ≡ ∣ s ∣ + 3
three_bytes_more = of_blank (λ s. ∣ with_car s ∣ ≡ ∣ s ∣ + 3) (λ rest. omega arith)

-- 16,000 bytes are not too long, one more is.
fits : (t : List ℕ) → ∣ t ∣ ≤ 16000 → too_long t ≡ false
fits t short = cases (too_long t) (λ long. absurd (omega (arith, ltb-true))) (λ isnt. isnt)

too-long : (t : List ℕ) → 16000 < ∣ t ∣ → too_long t ≡ true
too-long t long = cases (too_long t) (λ is. is) (λ short. absurd (omega (arith, ltb-false)))

pub good_sheets_copied : GoodSheetsCopied
unfolding copy_of
good_sheets_copied s b meant = record {
  named_copied = λ isnt. rw (meant, isnt, fits s (bid_is_short _ s b meant));
  blank_copied = λ is short. rw (meant, is, fits (with_car s) (omega (arith, three_bytes_more s is)));
  blank_too_long = λ is long. rw (meant, is, too-long (with_car s) (omega (arith, three_bytes_more s is)));
}

pub blank_written : BlanksWritten
blank_written s t is e =
    let written : t ≡ with_car s = rw is at (copied_so s t e).is_written in
    record { others_kept = written; longer = rw written (three_bytes_more s is) }

pub copy_means_the_same : CopiesMeanTheSame
unfolding meaning_where in_order policy_line
copy_means_the_same s t e =
    cases (blank_policy s)
    (λ blank. of_blank (λ s. copy_of s ≡ copy t → meaning t ≡ filed_meaning s) now_car s blank e)
    (λ named. ap meaning (named_unchanged s t named e) ∙ named_means_the_same s named)
  where
    -- The sheet is not too long where its copy is not.
    now_car : (rest : List ℕ) → copy_of (bytes "policy=\n" ++ rest) ≡ copy t
        → meaning t ≡ filed_meaning (bytes "policy=\n" ++ rest)
    now_car rest e =
        let c = copied_so (bytes "policy=\n" ++ rest) t e in
        let copy-short = le-ltb most_sheet_bytes _ c.is-short in
        let sheet_short = le-ltb most_sheet_bytes ∣ bytes "policy=\n" ++ rest ∣ (omega (arith, c.is-short)) in
        rw (c.is_written, copy-short, sheet_short)

-- The policy of what is written is not blank.
now_named : (s : List ℕ) → blank_policy (car_where_blank s) ≡ false
now_named s =
    by_test (λ t. blank_policy t ≡ false) (blank_policy s)
    (of_blank (λ s. blank_policy (with_car s) ≡ false) (λ rest. refl) s) (λ named. named)

pub copied_once : CopiedOnce
unfolding copy_of
copied_once s t e =
    let written = (copied_so s t e).is_written in
    let named : blank_policy t ≡ false = rw written (now_named s) in
    let means-the-same = sym (named_means_the_same t named) ∙ copy_means_the_same s t e in
    ap₂ copy_if means-the-same (named_kept t named ∙ written) ∙ e

-- ITS REFUSALS

pub not_copied_has_number : NotCopiedHasNumber
unfolding copy_of
not_copied_has_number s number at = go (filed_meaning s) refl
  where
    go : (m : Meaning) → filed_meaning s ≡ m → copy_if m (car_where_blank s) ≡ not_copied number at → 1 ≤ number
    go (bid b) is =
        by_test (λ c. c ≡ not_copied number at → 1 ≤ number) (too_long (car_where_blank s)) (λ long e.
        let same : 7 ≡ number = cc in omega arith) (λ short e. never (sym e))
    go (refused n l) is = λ e.
        let same : n ≡ number = cc in omega (arith, refusal_has_number car refl s n l is)
