-- A head demoted in words that hold a directory.
-- And of the words of the passes: their room, and that a list with a head has a length.
use mathlib.Core.Path.{◌≡◌, refl, ap}
use mathlib.Core.List.{List, ◌∷◌}
use Prim.Native.Nat.{ℕ, ◌+◌, ◌≤◌}
use native.Mathlib.Omega.{arith}
use lib.ListN.{get_or}
use Rattle.terms.specs.Choice.{∣◌∣}
use Rattle.figures.specs.Entry.{Entry, demoted}
use Rattle.figures.specs.Directory.{list_of}
use Rattle.engine.specs.declared.counts.Kept.{Kept}
use Rattle.engine.specs.Passes.{Passing}
use Rattle.entries.specs.Holds.{Holds}
use Rattle.entries.specs.Flags.{Becomes}
use Rattle.entries.specs.Leaves.{HeadMoved}
use Rattle.entries.specs.Stretches.{Room, name_of, start_of}
use Rattle.entries.proofs.Laid.{Header, header, length_of_list}
use Rattle.entries.proofs.Heads.{page_read, head_moved}
use Rattle.entries.proofs.Rooms.{roomy}
use Rattle.cart.specs.Passing.{HeadDemoted}

-- The head of list i demoted.
pub head_demoted : {i at f : ℕ} {w w' : List ℕ} → i ≤ 1 → 1 ≤ get_or w (4 + i) 0 → at ≡ start_of i w
    → Becomes demoted (get_or w (at + 1) 0) f → HeadMoved i (i + 2) f w w' → HeadDemoted i (get_or w at 0) w w'
head_demoted {i} known some start becomes moved d is =
    let there : i ≤ 3 = omega arith in (
      page_read there some start d is,
      head_moved there some start (i + 2) demoted (λ e. refl) becomes moved d is,
    )

module _ {w : List ℕ} {k : Kept} (p : Passing Holds w k) where
  pub passing_header : Header p.dir w
  passing_header = header p.dir w p.shown

  pub passing_room : Room w
  passing_room = roomy p.dir p.shown (omega (arith, p.accounts)) p.accounts.bounds.of_c.c_most

  -- A list with a head has a length.
  pub list_some : (i : ℕ) → i ≤ 3 → {e : Entry} {es : List Entry} → list_of (name_of i) p.dir ≡ e ∷ es
      → 1 ≤ get_or w (4 + i) 0
  list_some i known front = omega (arith, length_of_list i p.dir w p.shown known, ap ∣◌∣ front)
