-- Hand moves of a run of C's from a fresh directory, by the promise alone: at most so many a request as the policy's row
-- says, two for CART and one for the others.
use mathlib.Core.Path.{◌≡◌}
use mathlib.Core.Bool.{true}
use mathlib.Core.List.{List}
use Prim.Native.Nat.{ℕ, ◌*◌, ◌≤◌}
use Rattle.terms.specs.Choice.{∣◌∣}
use Rattle.terms.specs.Policies.{known_policy}
use Rattle.figures.specs.Directory.{fresh}
use Rattle.figures.specs.Words.{encode}
use Rattle.figures.specs.Policy.{policy_of}
use Rattle.directory.proofs.Bounded.{fresh_most}
use Rattle.exports.specs.declared.Ran.{Ran}
use Rattle.exports.specs.Promises.{Replayed}

pub fresh_run_moves : (policy : ℕ) → known_policy policy ≡ true → (c : ℕ)
    → (trace answers : List ℕ) (r : Ran) (w' answers' : List ℕ)
    → Replayed (encode (fresh policy c)) trace answers r w' answers'
    → r.tally.moves ≤ (policy_of policy).moves_each * ∣ trace ∣
fresh_run_moves policy known c trace answers r w' answers' p = fresh_most policy known c trace p.moves_at_most
