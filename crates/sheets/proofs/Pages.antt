-- The page lines, one after the other: what the reading of the first says of them all.
use Rattle.std.specs.Prelude.{if◌then◌else◌}
use mathlib.Core.Path.{◌≡◌, ap, ◌∙◌}
use mathlib.Core.Bool.{Bool, true, false, true≢false}
use mathlib.Core.List.{List, []}
use Prim.Native.Nat.{ℕ, suc, ◌<◌}
use native.Mathlib.Omega.{arith}
use lib.ListN.{drop}
use lib.Dec.{ltb}
use borrow.Author.Tests.{ltb-true}
use Rattle.terms.specs.Choice.{∣◌∣}
use Rattle.terms.specs.Refusals.{no_such_line}
use Rattle.terms.proofs.Choice.{by_test}
use Rattle.text.specs.Text.{bytes, starts}
use Rattle.sheets.specs.Number.{Value, means, wrong}
use Rattle.sheets.specs.Lines.{Lines, end, unclosed, line, good, bad, before}
use Rattle.sheets.specs.Bid.{listed, refused_at, number_of_line, onto, page_meant, page_line, pages_from}

-- No line is left.
abbrev pub is_end : Lines → Bool
is_end end = true
is_end unclosed = false
is_end (line l rest) = false

pub record GoodLine (v : Value) (after : Lines) (n : ℕ) (rest : Lines) : Type 0 where
  pub meant : v ≡ means n
  pub same_rest : after ≡ rest

-- A refusal is no good reading.
never : {A : Type 0} {k n : ℕ} {rest : Lines} → bad k ≡ good n rest → A
never e = let no : ◌≡◌ {A = ℕ} 0 1 = cc in absurd (omega arith)

-- A line under its key is good only by its value.
good_value : (t : Bool) (v : Value) (after : Lines) (n : ℕ) (rest : Lines)
    → (if t then before v after else bad no_such_line) ≡ good n rest → GoodLine v after n rest
good_value true (means x) after n rest e = record { meant = cc; same_rest = cc }
good_value true (wrong k) after n rest e = never e
good_value false v after n rest e = never e

pub record NextPage (n : ℕ) (ls : Lines) (page : ℕ) (rest : Lines) : Type 0 where
  pub one-of-thousand : n < 1000
  pub goes-on : pages_from n ls ≡ onto n (good page rest) (pages_from (suc n) rest)

module _ (n page : ℕ) (rest : Lines) where
  -- "5 if it is the 1,001st page line"
  few : (s : List ℕ) → page_meant n s ≡ means page → n < 1000
  few s =
      by_test (λ (v : Value). v ≡ means page → n < 1000) (ltb n 1000) (λ test is. ltb-true n 1000 test)
      (λ test is. let no : ◌≡◌ {A = ℕ} 0 1 = cc in absurd (omega arith))

  pub next_page : (ls : Lines) → page_line n ls ≡ good page rest → NextPage n ls page rest
  unfolding page_line
  next_page end e = never e
  next_page unclosed e = never e
  next_page (line l after) e =
      let s = drop ∣ bytes "page=" ∣ l in
      let g = good_value (starts (bytes "page=") l) (page_meant n s) after page rest e in
      record {
        one-of-thousand = few s g.meant;
        goes-on =
            ap (λ r. onto n r (pages_from (suc n) after)) e
            ∙ ap (λ ls. onto n (good page rest) (pages_from (suc n) ls)) g.same_rest;
      }

pub wrong_page : (n k : ℕ) (ls : Lines) → is_end ls ≡ false → page_line n ls ≡ bad k
    → pages_from n ls ≡ refused_at k (number_of_line n)
wrong_page n k end h e = absurd (true≢false h)
wrong_page n k unclosed h e = ap (λ r. onto n r (listed [])) e
wrong_page n k (line l after) h e = ap (λ r. onto n r (pages_from (suc n) after)) e
