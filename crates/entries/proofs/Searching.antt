-- A list searched entry by entry: for a page, for a flag.
-- For the loops of `find` and `count`, and what a search of list i says of the directory.
use Rattle.std.specs.Prelude.{Option, Some, None}
use mathlib.Core.Path.{◌≡◌, sym, ◌∙◌}
use mathlib.Core.List.{List}
use Prim.Native.Nat.{ℕ, suc, ◌+◌, ◌*◌, ◌≤◌}
use native.Mathlib.Omega.{arith}
use lib.ListN.{drop, get_or}
use borrow.Author.Tests.{eq-eqb, ne_eqb}
use Rattle.figures.specs.Entry.{Entry, total}
use Rattle.figures.specs.Directory.{Directory, list_of}
use Rattle.entries.specs.Holds.{Holds}
use Rattle.entries.specs.Flags.{Says, of_flag}
use Rattle.entries.specs.Leaves.{OfEntries, FoundAt, FoundIn}
use Rattle.entries.specs.Stretches.{name_of, start_of, index}
use Rattle.entries.proofs.Laid.{length_of_list}
use Rattle.entries.proofs.Reading.{EntryAt, told, list_held}

module _ {w : List ℕ} {a : ℕ} {l : List Entry} {i : ℕ} (s : EntryAt w a l i) (x : ℕ) where
  pub index_here : get_or w (a + 2 * i) 0 ≡ x → index x (drop i l) ≡ 0
  index_here is = rw (s.front, eq-eqb s.here.page x (sym s.page_word ∙ is))

  pub index_later : (get_or w (a + 2 * i) 0 ≡ x → ⊥) → index x (drop i l) ≡ suc (index x (drop (i + 1) l))
  index_later not = rw (s.front, ne_eqb s.here.page x (λ is. not (s.page_word ∙ is)))

-- What a list counts for by a flag is what its entry i counts for and what the later ones do.
pub count_more : {w : List ℕ} {a : ℕ} {l : List Entry} {i : ℕ} → EntryAt w a l i → (flag : ℕ) {r : ℕ}
    → Says (of_flag flag) (get_or w (a + 2 * i + 1) 0) r
    → total (of_flag flag) (drop i l) ≡ r + total (of_flag flag) (drop (i + 1) l)
count_more s flag says = rw (s.front, says s.here s.flags_word)

-- What `find` says of the words of list i it says of list i of a directory.
module _ (w : List ℕ) (i : ℕ) (named : i ≤ 3) (x : ℕ) {a n : ℕ} (start : a ≡ start_of i w) (size : n ≡ get_or w (4 + i) 0) where
  of_list : {Of : List Entry → Type 0} → OfEntries w a n Of → (d : Directory) → Holds d w → Of (list_of (name_of i) d)
  of_list says d is =
      told (list_held d w is i named) says (sym start) (sym (length_of_list i d w is named) ∙ sym size)

  pub found_in : (r : Option ℕ) → FoundAt w a n x r → FoundIn i x w r
  found_in None found = λ d is. of_list found d is
  found_in (Some k) found = (omega (arith, found.0), λ d is. of_list found.1 d is)
