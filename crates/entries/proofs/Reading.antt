-- Words that hold a list of entries, and what is read there: the page and the flags of an entry, the entries after it.
-- A list is held where the words are those before it, its own, and those after it.
use mathlib.Core.Path.{◌≡◌, refl, sym, ap, ◌∙◌}
use mathlib.Core.List.{List, [], ◌∷◌, ◌++◌, append_assoc, append-nil}
use Prim.Native.Nat.{ℕ, zero, suc, ◌+◌, ◌*◌, ◌≤◌, ◌<◌}
use native.Mathlib.Numerals.{add-one}
use native.Mathlib.Omega.{arith}
use lib.ListN.{length, take, drop, get_or, length-append, take-append-drop}
use lib.Seq.{length-take-le, drop-cons, get_or_at, get_or-append-add}
use Rattle.terms.specs.Choice.{∣◌∣}
use Rattle.figures.specs.Entry.{Entry, new_short}
use Rattle.figures.specs.Directory.{Directory, list_of, listed}
use Rattle.figures.specs.Words.{flags, words, zeros}
use Rattle.entries.specs.Holds.{Holds}
use Rattle.entries.specs.Stretches.{name_of, start_of}
use Rattle.entries.specs.Leaves.{OfEntries}
use Rattle.laws.proofs.Encoding.{length_words, words_append}
use Rattle.entries.proofs.Laid.{heads, laid, header}

-- The words w hold the list l from word a on.
pub record Held (w : List ℕ) (a : ℕ) (l : List Entry) : Type 0 where
  pub before : List ℕ
  pub after : List ℕ
  pub parts : w ≡ before ++ (words l ++ after)
  pub starts : length before ≡ a

pub held : {w : List ℕ} {a : ℕ} {l : List Entry} (P R : List ℕ) → w ≡ P ++ (words l ++ R) → length P ≡ a → Held w a l
held P R parts starts = record { before = P; after = R; parts = parts; starts = starts }

-- so they hold its entries from i on,
pub held_from : {w : List ℕ} {a : ℕ} {l : List Entry} → Held w a l → (i : ℕ) → i ≤ length l
    → Held w (a + 2 * i) (drop i l)
held_from {l = l} h i fits =
    let split : words l ≡ words (take i l) ++ words (drop i l) = rw (← words_append, take-append-drop) in
    record {
      before = h.before ++ words (take i l);
      after = h.after;
      parts = h.parts ∙ simp (append_assoc, split);
      starts = simp (length-append, length_words) (omega (arith, length-take-le i l fits));
    }

-- and entry i
pub record EntryAt (w : List ℕ) (a : ℕ) (l : List Entry) (i : ℕ) : Type 0 where
  pub here : Entry
  pub front : drop i l ≡ here ∷ drop (i + 1) l
  pub page_word : get_or w (a + 2 * i) 0 ≡ here.page
  pub flags_word : get_or w (a + 2 * i + 1) 0 ≡ flags here

first-page : {w : List ℕ} {a : ℕ} {e : Entry} {l : List Entry} → Held w a (e ∷ l) → get_or w a 0 ≡ e.page
first-page h = rw h.parts (get_or_at h.before _ _ 0 _ h.starts)

first_flags : {w : List ℕ} {a : ℕ} {e : Entry} {l : List Entry} → Held w a (e ∷ l) → get_or w (a + 1) 0 ≡ flags e
first_flags h = rw (h.parts, ← h.starts) (get_or-append-add h.before _ 1 0)

pub entry_at : {w : List ℕ} {a : ℕ} {l : List Entry} → Held w a l → (i : ℕ) → i < length l → EntryAt w a l i
entry_at {w} {a} {l} h i fits =
    let e = get_or l i (new_short 0) in
    let front : drop i l ≡ e ∷ drop (i + 1) l = rw add-one (drop-cons l i (new_short 0) fits) in
    let there : Held w (a + 2 * i) (e ∷ drop (i + 1) l) = rw front at (held_from h i (omega arith)) in
    record { here = e; front = front; page_word = first-page there; flags_word = first_flags there }

-- What a search says of every list that stands there it says of this one.
pub told : {Of : List Entry → Type 0} {w : List ℕ} {a a' n : ℕ} {l : List Entry} → Held w a l → OfEntries w a' n Of
    → a ≡ a' → ∣ l ∣ ≡ n → Of l
told {l = l} h says at many = says h.before h.after l h.parts (h.starts ∙ at) many

-- The words of a directory hold any stretch of its listed entries,
module _ (d : Directory) (w : List ℕ) (is : Holds d w) where
  pub stretch_held : (A l B : List Entry) → listed d ≡ A ++ (l ++ B) → (a : ℕ) → 8 + 2 * ∣ A ∣ ≡ a → Held w a l
  stretch_held A l B cut a at = record {
    before = heads d ++ words A;
    after = words B ++ zeros d;
    parts =
        sym is ∙ laid d ∙ ap (λ (l : List Entry). heads d ++ (words l ++ zeros d)) cut
        ∙ simp (words_append, append_assoc);
    starts = simp length_words (omega arith);
  }

  -- T1 and T2 together,
  pub cache_held : Held w 8 (d.t1 ++ d.t2)
  cache_held = stretch_held [] (d.t1 ++ d.t2) (d.b1 ++ d.b2) (simp append_assoc) 8 refl

  -- and each list from its start on.
  pub list_held : (i : ℕ) → i ≤ 3 → Held w (start_of i w) (list_of (name_of i) d)
  list_held zero h = stretch_held [] d.t1 (d.t2 ++ (d.b1 ++ d.b2)) refl _ refl
  list_held (suc zero) h =
      stretch_held d.t1 d.t2 (d.b1 ++ d.b2) refl _ (omega (arith, header d w is))
  list_held (suc (suc zero)) h =
      stretch_held (d.t1 ++ d.t2) d.b1 d.b2 (simp append_assoc) _
      (simp length-append (omega (arith, header d w is)))
  list_held (suc (suc (suc zero))) h =
      stretch_held (d.t1 ++ (d.t2 ++ d.b1)) d.b2 [] (simp (append_assoc, append-nil)) _
      (simp length-append (omega (arith, header d w is)))
  list_held (suc (suc (suc (suc i)))) h = absurd (omega arith)
