-- What CAR's trim makes of a directory, by its tests: memory that shows the one shows the other.
-- Over what memory shows.
use mathlib.Core.Path.{◌≡◌}
use Prim.Native.Nat.{◌+◌, ◌*◌}
use borrow.Author.Tests.{eq-eqb, ne_eqb}
use Rattle.terms.specs.Choice.{∣◌∣}
use Rattle.figures.specs.Entry.{drop_head}
use Rattle.figures.specs.Directory.{Directory, B1, B2, with_list, cached, remembered}
use Rattle.figures.specs.Car.{trim}

module _ {W : Type 0} (Shows : Directory → W → Type 0) (d : Directory) {w : W} where
  pub drops-b1 : ∣ d.t1 ∣ + ∣ d.b1 ∣ ≡ d.c → Shows (with_list B1 (drop_head d.b1) d) w → Shows (trim d) w
  unfolding trim
  drops-b1 long shown = rw (eq-eqb (∣ d.t1 ∣ + ∣ d.b1 ∣) d.c long) shown

  pub drops-b2 : ¬ (∣ d.t1 ∣ + ∣ d.b1 ∣ ≡ d.c) → cached d + remembered d ≡ 2 * d.c
      → Shows (with_list B2 (drop_head d.b2) d) w → Shows (trim d) w
  unfolding trim
  drops-b2 not-long full shown =
      rw (ne_eqb (∣ d.t1 ∣ + ∣ d.b1 ∣) d.c not-long, eq-eqb (cached d + remembered d) (2 * d.c) full) shown

  pub drops_none : ¬ (∣ d.t1 ∣ + ∣ d.b1 ∣ ≡ d.c) → ¬ (cached d + remembered d ≡ 2 * d.c) → Shows d w
      → Shows (trim d) w
  unfolding trim
  drops_none not-long not_full shown =
      rw (ne_eqb (∣ d.t1 ∣ + ∣ d.b1 ∣) d.c not-long, ne_eqb (cached d + remembered d) (2 * d.c) not_full) shown
