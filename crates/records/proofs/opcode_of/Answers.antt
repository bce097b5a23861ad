-- A text of more than one byte is no letter.
use Rattle.std.proofs.Common.{◌≡◌, false, ℕ, ◌≤◌, List, [], ◌∷◌, length, refl, arith}
use lib.Dec.{eqb}
use Rattle.terms.specs.Choice.{same}
use Rattle.terms.proofs.Choice.{either}
use Rattle.traces.specs.Record.{unknown, opcode}
use Rattle.records.proofs.opcode_of.Goals as goal

no-letter : (x y : ℕ) (s : List ℕ) (letter : ℕ) → same (x ∷ y ∷ s) (letter ∷ []) ≡ false
no-letter x y s letter = either (λ t. t ≡ false) (eqb x letter) refl refl

several : (s : List ℕ) → 2 ≤ length s → unknown ≡ opcode s
several [] some = absurd (omega arith)
several (x ∷ []) some = absurd (omega arith)
several (x ∷ y ∷ s) some = rw (no-letter x y s 82, no-letter x y s 114, no-letter x y s 87, no-letter x y s 119)

pub returns-in_default-3 : goal.returns-in_default-3
returns-in_default-3 c = several c.args.text.now (omega arith)
