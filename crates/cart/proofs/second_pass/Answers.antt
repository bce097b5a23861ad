-- A turn of the loop is one look, and the code's test of the flags is line 27's of T1's head.
-- What `turn` says of it is what the loop keeps.
use Rattle.std.proofs.Common.{◌≡◌, Bool, List, ℕ, false, sym, ◌∙◌, arith}
use Rattle.engine.specs.Heads.{front_of}
use Rattle.engine.specs.Passes.{goes_on}
use Rattle.engine.proofs.Looks.{second_stops}
use Rattle.engine.proofs.Passes.{begins, goes-on, ends_here}
use Rattle.entries.specs.Flags.{Says}
use Rattle.cart.specs.Passing.{HeadFlags, SecondTest}
use Rattle.cart.proofs.Words.{passing_room}
use Rattle.cart.proofs.second_pass.Goals as goal

-- The test that the code has made.
tested : {w : List ℕ} {f : ℕ} {b value : Bool} → HeadFlags 0 f w → Says goes_on f b → b ≡ value → SecondTest value w
tested h says is d shown = sym (says (front_of d.t1) (h d shown)) ∙ is

pub loop-dir-init : goal.loop-dir-init
loop-dir-init c = record { passing = c.requires.passing; underway = begins; of_head = c.head_flags-f.ensures }

pub turn-now-requires-clause-room : goal.turn-now-requires-clause-room
turn-now-requires-clause-room c = passing_room c.loop-dir.invariant.passing

pub turn-now-requires-clause-passing : goal.turn-now-requires-clause-passing
turn-now-requires-clause-passing c = c.loop-dir.invariant.passing

pub turn-now-requires-clause-head_flags : goal.turn-now-requires-clause-head_flags
turn-now-requires-clause-head_flags c =
    let h = c.loop-dir.invariant.of_head in
    (h, tested h c.goes_on.ensures c.loop-dir-test.true)

pub head_flags-f-requires-in-loop-dir-clause-room : goal.head_flags-f-requires-in-loop-dir-clause-room
head_flags-f-requires-in-loop-dir-clause-room c = passing_room c.turn-now.ensures.passing

pub loop-dir-smaller : goal.loop-dir-smaller
loop-dir-smaller c =
    let l = c.turn-now.ensures in
    omega (arith, l.passing.accounts.left, l.one_move)

pub loop-dir-preserved : goal.loop-dir-preserved
loop-dir-preserved c =
    let l = c.turn-now.ensures in
    record {
      passing = l.passing;
      underway = goes-on c.loop-dir.invariant.underway l;
      of_head = c.head_flags-f-in-loop-dir.ensures;
    }

pub returns : goal.returns
returns c =
    let i = c.loop-dir.invariant in
    let stands : SecondTest false c.loop-dir.dir = tested i.of_head c.goes_on.ensures c.loop-dir-test.false in
    let ends = ends_here i.underway (λ h holds. second_stops h (stands h.dir holds.shown)) in
    (record { passing = i.passing; ends = ends }, stands)
