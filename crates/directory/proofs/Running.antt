-- A run as the definition has it for every input: refused as the check refuses, then for its trace, then for its
-- buffer, else served.
use mathlib.Core.Path.{◌≡◌}
use mathlib.Core.List.{List}
use Prim.Native.Nat.{ℕ, ◌+◌, ◌*◌, ◌≤◌, ◌<◌}
use native.Mathlib.Omega.{arith}
use borrow.Author.Tests.{lt-ltb, le-ltb, ne_eqb}
use Rattle.terms.specs.Choice.{∣◌∣}
use Rattle.figures.specs.Words.{decode}
use Rattle.figures.specs.Run.{run}
use Rattle.figures.specs.Refusals.{check_number, on_check, run_number, refused_run, served_run, on_run}
use Rattle.figures.specs.Demands.{moves_each, owed}
use Rattle.laws.proofs.Moves.{run_moves_at_most}
use Rattle.directory.proofs.Refused.{accepted_directory}

module _ (w trace answers : List ℕ) where
  -- By the run's number.
  refused : (m : ℕ) → run_number w trace answers ≡ m → (m ≡ 0 → ⊥) → on_run w trace answers ≡ refused_run m w answers
  unfolding on_run
  refused m is some = rw (is, ne_eqb m 0 some)

  served : run_number w trace answers ≡ 0 → on_run w trace answers ≡ served_run (run trace (decode w)) answers
  unfolding on_run
  served none = rw none

  -- The check's number, 5 and 6, in that order.
  pub run_refused : ((on_check w).number ≡ 0 → ⊥) → on_run w trace answers ≡ refused_run (on_check w).number w answers
  unfolding on_check run_number
  run_refused some = refused (check_number w) (rw (ne_eqb (check_number w) 0 some)) some

  module _ (none : (on_check w).number ≡ 0) where
    accepted : check_number w ≡ 0
    unfolding on_check
    accepted = none

    pub run_too_many : 1000 < ∣ trace ∣ → on_run w trace answers ≡ refused_run 5 w answers
    unfolding run_number
    run_too_many many = refused 5 (rw (accepted, lt-ltb 1000 ∣ trace ∣ many)) (λ e. omega arith)

    module _ (few : ∣ trace ∣ ≤ 1000) where
      pub run_short : ∣ answers ∣ < 4 * ∣ trace ∣ → on_run w trace answers ≡ refused_run 6 w answers
      unfolding run_number
      run_short short =
          refused 6 (rw (accepted, le-ltb 1000 ∣ trace ∣ few, lt-ltb ∣ answers ∣ (4 * ∣ trace ∣) short)) (λ e. omega arith)

      pub run_served : 4 * ∣ trace ∣ ≤ ∣ answers ∣ → on_run w trace answers ≡ served_run (run trace (decode w)) answers
      unfolding run_number
      run_served fits = served (rw (accepted, le-ltb 1000 ∣ trace ∣ few, le-ltb ∣ answers ∣ (4 * ∣ trace ∣) fits))

-- No run that the check accepts takes more moves than that.
pub run_moves : (w trace : List ℕ) → (on_check w).number ≡ 0
    → (run trace (decode w)).tally.moves ≤ moves_each (decode w) * ∣ trace ∣ + owed (decode w)
unfolding on_check
run_moves w trace none = run_moves_at_most trace (decode w) (accepted_directory w none)

-- What the search finds `run` by.
pub ruleset runs = (run_refused, run_too_many, run_short, run_served, run_moves)
