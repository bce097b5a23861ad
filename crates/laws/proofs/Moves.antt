-- Hand moves: no request needs more than its policy's row says, and over a run so many a request as it says are enough:
-- what a directory owes falls with every move and rises by little with a request.
use mathlib.Core.Path.{◌≡◌, refl, sym, ap, ap₂, subst}
use mathlib.Core.Bool.{true}
use mathlib.Core.List.{List, [], ◌∷◌}
use Prim.Native.Nat.{ℕ, ◌+◌, ◌*◌, ◌≤◌}
use native.Mathlib.Omega.{arith}
use borrow.Author.Tests.{eqb-true}
use Rattle.terms.specs.Choice.{∣◌∣}
use Rattle.terms.specs.Policies.{car, cart, fifo, clock, lru, known_policy}
use Rattle.terms.proofs.Tests.{reads}
use Rattle.figures.specs.Directory.{Directory, fresh, cached}
use Rattle.figures.specs.Hand.{Hand}
use Rattle.figures.specs.Policy.{Policy, policy_of}
use Rattle.figures.specs.Request.{Served, serve, request}
use Rattle.figures.specs.Run.{Tally, zero_tally, noted, run_from, run}
use Rattle.figures.specs.Demands.{Sound, row_of, StillRequests, MovesAreBitsCleared, most_moves, RequestMovesAtMost}
use Rattle.figures.specs.Demands.{moves_each, owed, RunMovesAtMost, last_moves, RequestsAtMost, RunsAtMost}
use Rattle.laws.proofs.Facts.{Shared}
use Rattle.laws.proofs.Soundness.{facts}
use Rattle.laws.proofs.Requests.{serve_by_cases, missed_by_cases, missed_moves, after, run_after}
use Rattle.laws.proofs.Laws.{Pays}
use Rattle.laws.proofs.Kept.{laws, owns, request_keeps, fresh_is_sound}
use Rattle.laws.proofs.Kept.{run_keeps, run_same_policy, run_same_size}
use Rattle.laws.proofs.Stops.{evict_moves_are_bits}

pub still_requests : StillRequests
still_requests x d =
    serve_by_cases (row_of d) x d Still
    (λ found k. (refl, refl, refl))
    (λ not_found room k. (refl, refl, refl))
    (λ not_found full.
    missed_by_cases (row_of d) x _ Still (λ in-b1 k. absurd (omega arith)) (λ not-b1 in-b2 k. absurd (omega arith))
    (λ not-b1 not-b2 k. absurd (omega arith)))
  where
    Still : Served → Type 0
    Still s = s.kind ≤ 1 → (s.page ≡ 0) × (s.list ≡ 0) × (s.moves ≡ 0)

-- A request's moves are none, or those of the evict part of a full cache.
moves_by : (π : Policy) (x : ℕ) (d : Directory) (P : ℕ → Type 0) → P 0 → (cached d ≡ d.c → P (π.evict d).moves)
    → P (serve π x d).moves
moves_by π x d P none evicting =
    serve_by_cases π x d (λ s. P s.moves) (λ found. none) (λ not_found room. none)
    (λ not_found full. subst P (sym (missed_moves π x (π.evict d))) (evicting (eqb-true (cached d) d.c full)))

pub request_moves_at_most : RequestMovesAtMost
request_moves_at_most x d s =
    moves_by (row_of d) x d (λ m. m ≤ most_moves d) (omega arith)
    (λ full. (laws d s).moves_at_most d (facts d s).shared (owns d s) full)

pub moves_are_bits_cleared : MovesAreBitsCleared
moves_are_bits_cleared x d s not-cart =
    serve_by_cases (row_of d) x d Cleared
    (λ found evicts. absurd (omega arith))
    (λ not_found room evicts. absurd (omega arith))
    (λ not_found full.
    let m = evict_moves_are_bits d s not-cart (eqb-true (cached d) d.c full) in
    missed_by_cases (row_of d) x _ Cleared (λ in-b1 evicts. m) (λ not-b1 in-b2 evicts. m) (λ not-b1 not-b2 evicts. m))
  where
    Cleared : Served → Type 0
    Cleared s = 2 ≤ s.kind → s.moves ≡ s.cleared + 1

-- Every request pays for its moves: what is owed afterwards is so much less.
module _ (π : Policy) (Own : Directory → Type 0) (p : Pays π Own) (x : ℕ) (d : Directory) (shared : Shared d)
    (own : Own d) where
  pays : (serve π x d).moves + π.owed (serve π x d).dir ≤ π.moves_each + π.owed d
  pays =
      serve_by_cases π x d Paid
      (λ found. omega (arith, p.hits x d))
      (λ not_found room. omega (arith, p.new x d))
      (λ not_found full.
      let e = p.evicts d shared own (eqb-true (cached d) d.c full) in
      missed_by_cases π x h Paid
      (λ in-b1. omega (arith, p.back_b1 x h))
      (λ not-b1 in-b2. omega (arith, p.back_b2 x h))
      (λ not-b1 not-b2. omega (arith, p.new x (π.trim h.dir), p.trims h.dir)))
    where
      h : Hand
      h = π.evict d

      Paid : Served → Type 0
      Paid s = s.moves + π.owed s.dir ≤ π.moves_each + π.owed d

pub request_pays : (x : ℕ) (d : Directory) → Sound d
    → (request x d).moves + owed (request x d).dir ≤ moves_each d + owed d
request_pays x d s =
    let d' = (request x d).dir in
    let same = ap (λ (n : ℕ). (policy_of n).owed d') (request_keeps x d s).same_policy in
    omega (arith, same, pays (row_of d) (laws d s).Own (laws d s).pays x d (facts d s).shared (owns d s))

run_moves : (t : Tally) (trace : List ℕ) (d : Directory) → Sound d
    → (run_from t trace d).tally.moves ≤ t.moves + (moves_each d * ∣ trace ∣ + owed d)
unfolding run_from
run_moves t [] d s = omega arith
run_moves t (x ∷ trace) d s =
    let k = request_keeps x d s in
    let each = ap (λ (n : ℕ). (policy_of n).moves_each * ∣ trace ∣) k.same_policy in
    omega (arith, each, request_pays x d s, run_moves (noted (request x d) t) trace (request x d).dir k.sound_again)

pub run_moves_at_most : RunMovesAtMost
run_moves_at_most trace d s = omega (arith, run_moves zero_tally trace d s)

-- Demand 3: from a fresh directory, which owes nothing.
module _ (policy : ℕ) (known : known_policy policy ≡ true) (c : ℕ) (least : 1 ≤ c) (most : c ≤ 1024)
    (trace : List ℕ) where
  fresh_sound : Sound (fresh policy c)
  fresh_sound = fresh_is_sound policy c known (simp reads (least, most))

  last_at_most : (x : ℕ) → last_moves policy c trace x ≤ (policy_of policy).most_moves c
  last_at_most x =
      let d = fresh policy c in
      let s = fresh_sound in
      let bound = request_moves_at_most x (after trace d) (run_keeps trace d s) in
      let same = ap₂ (λ (n m : ℕ). (policy_of n).most_moves m) (run_same_policy trace d s) (run_same_size trace d s) in
      subst (λ (d' : Directory). (request x d').moves ≤ (policy_of policy).most_moves c) (sym (run_after zero_tally trace d))
      (omega arith)

  run_at_most : (run trace (fresh policy c)).tally.moves ≤ (policy_of policy).moves_each * ∣ trace ∣
  run_at_most =
      let owes = (laws (fresh policy c) fresh_sound).pays.fresh_owes policy c in
      omega (arith, run_moves_at_most trace (fresh policy c) fresh_sound, owes)

pub requests_at_most : RequestsAtMost
requests_at_most = record {
  of_car = last_at_most car refl;
  of_cart = last_at_most cart refl;
  of_fifo = last_at_most fifo refl;
  of_clock = last_at_most clock refl;
  of_lru = last_at_most lru refl;
}

pub runs_at_most : RunsAtMost
runs_at_most = record {
  of_car = run_at_most car refl;
  of_cart = run_at_most cart refl;
  of_fifo = run_at_most fifo refl;
  of_clock = run_at_most clock refl;
  of_lru = run_at_most lru refl;
}
