-- Pages that differ from an entry on, and a page told from those behind it by what is noted of these.
-- For `stands_behind`, which looks behind one entry, and for the loop of `pages_differ`, which goes to the front.
use Rattle.std.specs.Prelude.{Option, Some, None, if◌then◌else◌}
use Rattle.std.specs.Option.{is_some}
use mathlib.Core.Path.{◌≡◌, refl, sym, ap, ◌∙◌}
use mathlib.Core.Bool.{Bool, true, false, true≢false}
use mathlib.Core.List.{List, [], ◌∷◌}
use Prim.Native.Nat.{ℕ, zero, suc, ◌+◌, ◌-◌, ◌*◌, ◌<◌}
use native.Mathlib.Omega.{arith}
use lib.Dec.{eqb}
use lib.ListN.{length, drop, get_or, length-drop}
use borrow.Author.Tests.{eqb-true}
use Rattle.figures.specs.Entry.{Entry, has, differ}
use Rattle.entries.specs.Leaves.{FoundAt}
use Rattle.entries.proofs.Reading.{Held, EntryAt, held_from, told}
use Rattle.differing.specs.Seen.{BitsKept, Noted, AllNoted}

-- Pages that do not differ from an entry on do not differ.
pub differ_from : (i : ℕ) (l : List Entry) → differ (drop i l) ≡ false → differ l ≡ false
differ_from zero l not = not
differ_from (suc i) [] not = not
differ_from (suc i) (e ∷ l) not = go (has e.page l) (differ_from i l not)
  where
    go : (b : Bool) → differ l ≡ false → (if b then false else differ l) ≡ false
    go true h = refl
    go false h = h

noted_kept : {page : ℕ} {seen seen' : List ℕ} → BitsKept seen seen' → Noted page seen → Noted page seen'
noted_kept kept is = record {
  low_set = kept.still_set _ is.low_set;
  mixed_set = kept.still_set _ is.mixed_set;
}

-- A page that is not noted is none of those that are.
pub unseen : (page : ℕ) (l : List Entry) {seen : List ℕ} {b : Bool} → AllNoted l seen → (Noted page seen → b ≡ true)
    → b ≡ false → has page l ≡ false
unseen page l all told not = go (has page l) refl
  where
    go : (h : Bool) → has page l ≡ h → h ≡ false
    go true is = absurd (true≢false (sym (told (all page is)) ∙ not))
    go false is = refl

-- A page that is searched for behind entry i stands there if it is found.
pub searched : (i x : ℕ) (r : Option ℕ) {w : List ℕ} {a n from many : ℕ} {l : List Entry} → Held w a l → length l ≡ n
    → i < n → FoundAt w from many x r → from ≡ a + 2 * i + 2 → many ≡ n - i - 1 → has x (drop (i + 1) l) ≡ is_some r
searched i x None h is inside found starts ends =
    told (held_from h (i + 1) (omega arith)) found (omega arith) (simp length-drop (omega arith))
searched i x (Some k) h is inside found starts ends =
    let place = told (held_from h (i + 1) (omega arith)) found.1 (omega arith) (simp length-drop (omega arith)) in
    place.0

module _ {w : List ℕ} {a : ℕ} {l : List Entry} {i at : ℕ} (s : EntryAt w a l i) where
  page_at : at ≡ a + 2 * i → get_or w at 0 ≡ s.here.page
  page_at is = ap (λ (k : ℕ). get_or w k 0) is ∙ s.page_word

  -- Whether the pages from entry i on differ, by whether its page stands behind it.
  pub differ_here : {b : Bool} → has (get_or w at 0) (drop (i + 1) l) ≡ b → at ≡ a + 2 * i
      → differ (drop i l) ≡ (if b then false else differ (drop (i + 1) l))
  differ_here stands is = rw (s.front, ← page_at is, stands)

  -- All are noted from entry i on, once its page is beside those behind it.
  noted_here : {seen seen' : List ℕ} → AllNoted (drop (i + 1) l) seen → Noted (get_or w at 0) seen' → at ≡ a + 2 * i
      → BitsKept seen seen' → AllNoted (drop i l) seen'
  noted_here {seen} {seen'} all this at-is kept page is = go (eqb s.here.page page) refl (rw s.front at is)
    where
      go : (b : Bool) → eqb s.here.page page ≡ b → (if b then true else has page (drop (i + 1) l)) ≡ true
          → Noted page seen'
      go true e h = rw (← eqb-true s.here.page page e, ← page_at at-is) this
      go false e h = noted_kept kept (all page h)

-- The entries from i on were seen: their pages differ, and all are noted.
pub record SeenFrom (l : List Entry) (i : ℕ) (seen : List ℕ) : Type 0 where
  pub they_differ : differ (drop i l) ≡ true
  pub all_noted : AllNoted (drop i l) seen

-- One more, whose page does not stand behind it and is noted.
pub seen_more : {w : List ℕ} {a : ℕ} {l : List Entry} {i at : ℕ} {seen seen' : List ℕ} → EntryAt w a l i
    → SeenFrom l (i + 1) seen → differ (drop i l) ≡ differ (drop (i + 1) l) → Noted (get_or w at 0) seen'
    → at ≡ a + 2 * i → BitsKept seen seen' → SeenFrom l i seen'
seen_more s p same this at-is kept = record {
  they_differ = same ∙ p.they_differ;
  all_noted = noted_here s p.all_noted this at-is kept;
}
