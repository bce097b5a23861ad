-- The head of a list: its page and flags stand at the list's first two words, and what a move of it makes.
-- Over any directory that the words hold.
use mathlib.Core.Path.{◌≡◌, sym, ap, ◌∙◌}
use mathlib.Core.List.{List}
use Prim.Native.Nat.{ℕ, ◌+◌, ◌≤◌}
use native.Mathlib.Nat.{add-zero}
use native.Mathlib.Omega.{arith}
use lib.ListN.{get_or}
use Rattle.terms.specs.Choice.{∣◌∣}
use Rattle.figures.specs.Entry.{Entry, drop_head}
use Rattle.figures.specs.Directory.{Directory, list_of}
use Rattle.figures.specs.Words.{flags}
use Rattle.engine.specs.Shown.{Makes}
use Rattle.engine.specs.Heads.{front_of, head_to}
use Rattle.engine.proofs.Heads.{some_front}
use Rattle.entries.specs.Holds.{Holds}
use Rattle.entries.specs.Flags.{Becomes}
use Rattle.entries.specs.Leaves.{HeadMoved}
use Rattle.entries.specs.Stretches.{name_of, start_of}
use Rattle.entries.proofs.Laid.{length_of_list}
use Rattle.entries.proofs.Reading.{Held, EntryAt, list_held, entry_at}

-- List i, which is not empty, starts at word `at`.
module _ {i at : ℕ} {w : List ℕ} (known : i ≤ 3) (some : 1 ≤ get_or w (4 + i) 0) (start : at ≡ start_of i w) where
  module _ (d : Directory) (is : Holds d w) where
    abbrev list : List Entry
    list = list_of (name_of i) d

    list_some : 1 ≤ ∣ list ∣
    list_some = omega (arith, length_of_list i d w is known)

    first : EntryAt w at list 0
    first = let there : Held w at list = rw start (list_held d w is i known) in entry_at there 0 list_some

    pub page_read : get_or w at 0 ≡ (front_of list).page
    page_read = rw add-zero at first.page_word ∙ ap (λ (l : List Entry). (front_of l).page) (sym first.front)

    pub flags_read : get_or w (at + 1) 0 ≡ flags (front_of list)
    flags_read = rw add-zero at first.flags_word ∙ ap (λ (l : List Entry). flags (front_of l)) (sym first.front)

  -- A move to list j's tail, where the head's flags become f as `change` makes them.
  pub head_moved : (j : ℕ) (change : Entry → Entry) {f : ℕ} {w' : List ℕ} → ((e : Entry) → (change e).page ≡ e.page)
      → Becomes change (get_or w (at + 1) 0) f → HeadMoved i j f w w'
      → Makes Holds (head_to (name_of i) (name_of j) change) w w'
  head_moved j change same becomes moved d is =
      let l = list_of (name_of i) d in
      let e = front_of l in
      moved d e (change e) (drop_head l) is (some_front l (list_some d is)) (same e) (becomes e (flags_read d is))
