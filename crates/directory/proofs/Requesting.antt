-- A request as the definition has it for every input: refused as the check refuses, else served.
use mathlib.Core.Path.{◌≡◌}
use mathlib.Core.List.{List}
use Prim.Native.Nat.{ℕ, ◌≤◌}
use borrow.Author.Tests.{ne_eqb}
use Rattle.figures.specs.Words.{decode}
use Rattle.figures.specs.Request.{request}
use Rattle.figures.specs.Refusals.{check_number, on_check, on_request, refused_request, served_request}
use Rattle.figures.specs.Demands.{most_moves}
use Rattle.laws.proofs.Moves.{request_moves_at_most}
use Rattle.directory.proofs.Refused.{accepted_directory}

module _ (w : List ℕ) (x : ℕ) where
  pub request_refused : ((on_check w).number ≡ 0 → ⊥) → on_request w x ≡ refused_request (on_check w).number w
  unfolding on_request on_check
  request_refused some = rw (ne_eqb (check_number w) 0 some)

  module _ (none : (on_check w).number ≡ 0) where
    pub request_served : on_request w x ≡ served_request (request x (decode w))
    unfolding on_request on_check
    request_served = rw none

    pub request_moves : (request x (decode w)).moves ≤ most_moves (decode w)
    unfolding on_check
    request_moves = request_moves_at_most x (decode w) (accepted_directory w none)

-- What the search finds `request` by.
pub ruleset requests = (request_refused, request_served, request_moves)
