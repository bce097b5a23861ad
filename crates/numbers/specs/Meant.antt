-- What the reader of a number answers, by document 01.
use Rattle.std.specs.Prelude.{ℕ, Option, Some, None}
use Rattle.terms.specs.Refusals.{not_in_form}
use Rattle.sheets.specs.Number.{Value, means, wrong}

abbrev pub meant : Option ℕ → Value
meant (Some n) = means n
meant None = wrong not_in_form
