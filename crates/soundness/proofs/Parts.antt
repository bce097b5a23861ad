-- Words that hold a directory, cut around any list of it: where the list stands, and how many entries it has.
-- What a search from a word on tells, it tells of the list that stands there.
use mathlib.Core.Path.{◌≡◌, sym, ◌∙◌}
use mathlib.Core.List.{List, [], ◌++◌, append_assoc, append-nil}
use Prim.Native.Nat.{ℕ, ◌+◌, ◌*◌, ◌≤◌}
use native.Mathlib.Omega.{arith}
use lib.ListN.{get_or, length-append}
use Rattle.terms.specs.Choice.{∣◌∣}
use Rattle.figures.specs.Entry.{Entry, short, long, total}
use Rattle.figures.specs.Directory.{Directory, list_of, listed}
use Rattle.figures.specs.Words.{decode, n_t1, n_t2, n_b1, n_b2}
use Rattle.laws.proofs.Lists.{short_and_long}
use Rattle.entries.specs.Stretches.{name_of, start_of}
use Rattle.entries.specs.Leaves.{OfEntries}
use Rattle.entries.proofs.Laid.{Header, header, length_of_list}
use Rattle.entries.proofs.Reading as Reading
use Rattle.soundness.specs.Orderly.{WordsHeld}

-- In the words w the list l stands from word a on, and has n entries.
pub record Stands (w : List ℕ) (a n : ℕ) (l : List Entry) : Type 0 where
  pub there : Reading.Held w a l
  pub many : ∣ l ∣ ≡ n

-- So it is told what a search from word a' on tells of any list of n' entries that stands there.
pub told : {w : List ℕ} {a n : ℕ} {l : List Entry} {Of : List Entry → Type 0} → Stands w a n l → {a' n' : ℕ}
    → OfEntries w a' n' Of → a ≡ a' → n ≡ n' → Of l
told s tells at size = Reading.told s.there tells at (s.many ∙ size)

module _ {w : List ℕ} (h : WordsHeld w) where
  abbrev d : Directory
  d = decode w

  lengths : Header d w
  lengths = header d w h.is

  stands : (A l B : List Entry) → listed d ≡ A ++ (l ++ B) → {a n : ℕ} → 8 + 2 * ∣ A ∣ ≡ a → ∣ l ∣ ≡ n → Stands w a n l
  stands A l B cut at size = record { there = Reading.stretch_held d w h.is A l B cut _ at; many = size }

  pub all_stand : Stands w 8 (n_t1 w + n_t2 w + (n_b1 w + n_b2 w)) (listed d)
  all_stand =
      stands [] (listed d) [] (sym (append-nil (listed d))) (omega arith) (simp length-append (omega (arith, lengths)))

  list_stands : (i : ℕ) → i ≤ 3 → Stands w (start_of i w) (get_or w (4 + i) 0) (list_of (name_of i) d)
  list_stands i known = record {
    there = Reading.list_held d w h.is i known;
    many = sym (length_of_list i d w h.is known);
  }

  pub t1_stands : Stands w 8 (n_t1 w) d.t1
  t1_stands = list_stands 0 (omega arith)

  pub t2_stands : Stands w (8 + 2 * n_t1 w) (n_t2 w) d.t2
  t2_stands = list_stands 1 (omega arith)

  pub b1_stands : Stands w (8 + 2 * (n_t1 w + n_t2 w)) (n_b1 w) d.b1
  b1_stands = list_stands 2 (omega arith)

  pub b2_stands : Stands w (8 + 2 * (n_t1 w + n_t2 w + n_b1 w)) (n_b2 w) d.b2
  b2_stands = list_stands 3 (omega arith)

  pub history_stands : Stands w (8 + 2 * (n_t1 w + n_t2 w)) (n_b1 w + n_b2 w) (d.b1 ++ d.b2)
  history_stands =
      stands (d.t1 ++ d.t2) (d.b1 ++ d.b2) [] (simp (append_assoc, append-nil))
      (simp length-append (omega (arith, lengths))) (simp length-append (omega (arith, lengths)))

-- Where r of its entries are L, the others are S.
pub others_short : {w : List ℕ} {a n : ℕ} {l : List Entry} → Stands w a n l → {a' n' r : ℕ}
    → OfEntries w a' n' (λ l. r ≡ total long l) → a ≡ a' → n ≡ n' → r + total short l ≡ n
others_short {l = l} s counted at size = omega (arith, told s counted at size, short_and_long l, s.many)
