-- The example of specs/Recency, by computation.
use mathlib.Core.Path.{refl}
use Rattle.figures.specs.Recency.{RecentExample}

pub recent_example : RecentExample
recent_example = record { in-order = refl; first_two = refl }
