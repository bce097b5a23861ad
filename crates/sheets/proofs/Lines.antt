-- A sheet's lines by the first line feed: the line before it and the lines after it, or bytes that none closes.
use Rattle.std.specs.Prelude.{if◌then◌else◌}
use mathlib.Core.Path.{◌≡◌, refl, ap, ◌∙◌}
use mathlib.Core.Bool.{Bool, true, false}
use mathlib.Core.List.{List, [], ◌∷◌}
use Prim.Native.Nat.{ℕ, suc, ◌+◌, ◌≤◌, ◌<◌}
use native.Mathlib.Omega.{arith}
use lib.ListN.{get_or, take, drop}
use lib.Dec.{eqb}
use Rattle.terms.specs.Choice.{∣◌∣}
use Rattle.terms.proofs.Choice.{either}
use Rattle.text.specs.Bytes.{index_after, index_of}
use Rattle.sheets.specs.Lines.{Lines, end, unclosed, line, line_feed, behind, lines}
use Rattle.text.proofs.Text.{from_place}
use Rattle.sheets.proofs.Places.{cut_first}
use Rattle.sheets.proofs.Pages.{is_end}

pub lines_closed : (s : List ℕ) → index_of line_feed s < ∣ s ∣
    → lines s ≡ line (take (index_of line_feed s) s) (lines (drop (index_of line_feed s + 1) s))
lines_closed = cut_first line_feed line behind lines (λ b s. refl) (λ b l rest. refl)

-- Bytes without a line feed: the first is none, and so with the others.
record NoneIn (b : ℕ) (s : List ℕ) : Type 0 where
  pub first_is_not : lines (b ∷ s) ≡ behind b (lines s)
  pub none_later : index_of line_feed s ≡ ∣ s ∣

none_in : (b : ℕ) (s : List ℕ) → index_of line_feed (b ∷ s) ≡ suc ∣ s ∣ → NoneIn b s
unfolding index_of
none_in b s = by_first (eqb b line_feed) refl
  where
    by_first : (t : Bool) → eqb b line_feed ≡ t → index_after t (index_of line_feed s) ≡ suc ∣ s ∣ → NoneIn b s
    by_first true is none = absurd (omega arith)
    by_first false is none = record {
      first_is_not = ap (λ (t : Bool). if t then line [] (lines s) else behind b (lines s)) is;
      none_later = omega arith;
    }

behind_unclosed : (b : ℕ) (s : List ℕ) → index_of line_feed s ≡ ∣ s ∣ → behind b (lines s) ≡ unclosed
behind_unclosed b [] none = refl
behind_unclosed b (c ∷ s) none =
    let h = none_in c s none in ap (behind b) (h.first_is_not ∙ behind_unclosed c s h.none_later)

pub lines_unclosed : (s : List ℕ) → index_of line_feed s ≡ ∣ s ∣ → 1 ≤ ∣ s ∣ → lines s ≡ unclosed
lines_unclosed [] none some = absurd (omega arith)
lines_unclosed (b ∷ s) none some = let h = none_in b s none in h.first_is_not ∙ behind_unclosed b s h.none_later

-- Inside the sheet a line starts, closed or not.
is_end_behind : (b : ℕ) (ls : Lines) → is_end (behind b ls) ≡ false
is_end_behind b end = refl
is_end_behind b unclosed = refl
is_end_behind b (line l rest) = refl

pub not_at_end : (s : List ℕ) (at : ℕ) → at < ∣ s ∣ → is_end (lines (drop at s)) ≡ false
not_at_end s at inside =
    ap (λ t. is_end (lines t)) (from_place s at inside)
    ∙ either (λ ls. is_end ls ≡ false) (eqb (get_or s at 0) line_feed) refl (is_end_behind _ (lines (drop (at + 1) s)))
