-- CART's trim, by its tests: the directory as it was, or without the head of the history that it takes from.
-- Nothing here is of an engine: each says which directory its memory is to show.
use Rattle.std.specs.Prelude.{if◌then◌else◌}
use mathlib.Core.Path.{◌≡◌, refl}
use mathlib.Core.Bool.{Bool, true, false, ◌||◌}
use Prim.Native.Nat.{◌+◌}
use lib.Dec.{eqb, ltb}
use borrow.Author.Tests.{eq-eqb, ne_eqb}
use Rattle.terms.specs.Choice.{∣◌∣}
use Rattle.figures.specs.Entry.{drop_head}
use Rattle.figures.specs.Directory.{Directory, Name, B1, B2, list_of, with_list, remembered}
use Rattle.figures.specs.Cart.{trim}
use Rattle.engine.specs.Passes.{oldest_of}

module _ (d : Directory) where
  abbrev oldest : Name
  oldest = oldest_of d.q ∣ d.b1 ∣ ∣ d.b2 ∣

  -- A choice of a directory is one of the list that it is without the head of.
  named : (t : Bool) → let i = if t then B1 else B2 in
      (if t then with_list B1 (drop_head d.b1) d else with_list B2 (drop_head d.b2) d)
      ≡ with_list i (drop_head (list_of i d)) d
  named true = refl
  named false = refl

  pub trims : remembered d ≡ d.c + 1 → trim d ≡ with_list oldest (drop_head (list_of oldest d)) d
  unfolding trim
  trims full = rw (eq-eqb (remembered d) (d.c + 1) full) (named (ltb d.q ∣ d.b1 ∣ || eqb ∣ d.b2 ∣ 0))

  pub trims_not : ¬ (remembered d ≡ d.c + 1) → trim d ≡ d
  unfolding trim
  trims_not fits = rw (ne_eqb (remembered d) (d.c + 1) fits)
