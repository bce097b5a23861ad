-- What an answer of the code says of a refusal at a line: its number and its line, zeros where the call is accepted.
-- "The first line that is wrong decides the refusal, and its number from 1 is given with it (0 for 6 and 7)."
use Rattle.std.specs.Prelude.{ℕ, Result, Ok, Err}
use Rattle.terms.specs.Refusals.{accepted, number_of}
use Rattle.terms.specs.declared.refusals.RefusedAt.{RefusedAt}

abbrev pub number_at : {A : Type 0} → Result A RefusedAt → ℕ
number_at (Ok answer) = accepted
number_at (Err refused) = number_of refused.refusal

abbrev pub line_at : {A : Type 0} → Result A RefusedAt → ℕ
line_at (Ok answer) = 0
line_at (Err refused) = refused.line
