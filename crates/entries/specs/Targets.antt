-- The target p that a page found in a history asks for: lines 15 and 18 of both figures.
-- The policies differ in the dividend alone: for CAR it is the other history's length, for CART n_S or n_L.
use Rattle.std.specs.Prelude.{ℕ, ◌+◌, ◌-◌, ◌*◌, ◌/◌, min, max}
use Rattle.terms.specs.Choice.{∣◌∣}
use Rattle.figures.specs.Directory.{Directory, unit}

abbrev pub raised_target : ℕ → Directory → ℕ
raised_target dividend d = min (d.p + max unit (unit * dividend / ∣ d.b1 ∣)) (unit * d.c)

abbrev pub lowered_target : ℕ → Directory → ℕ
lowered_target dividend d = d.p - max unit (unit * dividend / ∣ d.b2 ∣)
