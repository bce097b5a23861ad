-- Hand moves of a run from a fresh directory, by the promise alone: at most so many a request as the policy's row says,
-- two for CART and one for the others.
use mathlib.Core.Path.{◌≡◌}
use mathlib.Core.Bool.{true}
use mathlib.Core.List.{List}
use Prim.Native.Nat.{ℕ, ◌+◌, ◌*◌, ◌≤◌}
use native.Mathlib.Omega.{arith}
use Rattle.std.specs.Prelude.{Result}
use Rattle.terms.specs.Choice.{∣◌∣}
use Rattle.terms.specs.Policies.{known_policy}
use Rattle.terms.specs.declared.refusals.Refusal.{Refusal}
use Rattle.figures.specs.Directory.{fresh}
use Rattle.figures.specs.Words.{encode, decode}
use Rattle.figures.specs.Policy.{policy_of}
use Rattle.figures.specs.Demands.{moves_each, owed}
use Rattle.laws.proofs.Encoding.{decode_encode}
use Rattle.laws.proofs.Lawful.{lawful}
use Rattle.tally.specs.declared.Tally.{Tally}
use Rattle.directory.specs.Promises.{tally_in, Replayed}

-- What a promise bounds from the words of a fresh directory, which owes nothing.
pub fresh_most : (policy : ℕ) → known_policy policy ≡ true → (c : ℕ) (trace : List ℕ) {moves : ℕ}
    → (let d = decode (encode (fresh policy c)) in moves ≤ moves_each d * ∣ trace ∣ + owed d)
    → moves ≤ (policy_of policy).moves_each * ∣ trace ∣
fresh_most policy known c trace most =
    omega (arith, rw decode_encode at most, (lawful policy known).pays.fresh_owes policy c)

pub fresh_run_moves : (policy : ℕ) → known_policy policy ≡ true → (c : ℕ)
    → (trace answers : List ℕ) (r : Result Tally Refusal) (w' answers' : List ℕ)
    → Replayed (encode (fresh policy c)) trace answers r w' answers'
    → (tally_in r).moves ≤ (policy_of policy).moves_each * ∣ trace ∣
fresh_run_moves policy known c trace answers r w' answers' p = fresh_most policy known c trace p.moves_at_most
