-- The bytes of an integer are digits.
use mathlib.Core.Path.{◌≡◌}
use mathlib.Core.Bool.{true}
use mathlib.Core.List.{List}
use Prim.Native.Nat.{ℕ}
use Rattle.terms.proofs.Tests.{reads}
use Rattle.text.specs.Digits.{all_digits}
use Rattle.traces.specs.Record.{is_integer}

pub integer_digits : (s : List ℕ) → is_integer s ≡ true → all_digits s ≡ true
unfolding is_integer
integer_digits s is = (simp reads at is).1
