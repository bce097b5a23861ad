-- A turn of the loop is one look: the move of T2's head to T1's tail, and then "raise q".
-- What engine's Looks says of it is what the loop keeps.
use Rattle.std.proofs.Common.{◌≡◌, Bool, true, List, ℕ, ◌+◌, sym, ◌∙◌, arith}
use Rattle.figures.specs.Entry.{cleared}
use Rattle.figures.specs.Directory.{Directory, T1, T2}
use Rattle.figures.specs.Cart as Cart
use Rattle.engine.specs.declared.counts.Kept.{Kept}
use Rattle.engine.specs.Shown.{Makes}
use Rattle.engine.specs.Heads.{front_of, head_to}
use Rattle.engine.specs.Passes.{Passing, Looked}
use Rattle.engine.proofs.Accounts.{after_move, counts_cached}
use Rattle.engine.proofs.Heads.{set_front}
use Rattle.engine.proofs.Looks.{Moved, first_looks, first_stops}
use Rattle.engine.proofs.Passes.{begins, goes-on, ends_here}
use Rattle.entries.specs.Holds.{Holds}
use Rattle.entries.specs.Flags.{Says}
use Rattle.cart.specs.Passing.{HeadFlags}
use Rattle.cart.proofs.Words.{passing_header, passing_room, list_some}
use Rattle.cart.proofs.first_pass.Goals as goal

module _ {w : List ℕ} {f : ℕ} (h : HeadFlags 1 f w) {b value : Bool} (says : Says (λ e. e.bit) f b) (tested : b ≡ value)
  where
    -- The bit that the code has read is that of T2's head.
    bit_is : (d : Directory) → Holds d w → (front_of d.t2).bit ≡ value
    bit_is d is = sym (says (front_of d.t2) (h d is)) ∙ tested

module _ {w : List ℕ} {k : Kept} {f : ℕ} (p : Passing Holds w k) (h : HeadFlags 1 f w)
    {b : Bool} (says : Says (λ e. e.bit) f b) (set : b ≡ true)
    {w₁ : List ℕ} (makes : Makes Holds (head_to T2 T1 cleared) w w₁) where
  moved : Moved Holds Cart.first_look (Cart.raise k.short.0) w k w₁
      (after_move k.short k.long (k.hand.cleared + 1) k)
  moved = first_looks p (bit_is h says set) makes

  looked : {w₂ : List ℕ} → Makes Holds (Cart.raise k.short.0) w₁ w₂
      → Looked Holds Cart.first_look w k w₂ (after_move k.short k.long (k.hand.cleared + 1) k)
  looked {w₂} raised = moved.looked w₂ raised

pub loop-f-init : goal.loop-f-init
loop-f-init c = record { passing = c.requires.passing; underway = begins; of_head = c.head_flags-f.ensures }

pub t2_head_to_t1-requires-clause-room : goal.t2_head_to_t1-requires-clause-room
t2_head_to_t1-requires-clause-room c = passing_room c.loop-f.invariant.passing

pub t2_head_to_t1-requires-clause-t2_has_head : goal.t2_head_to_t1-requires-clause-t2_has_head
t2_head_to_t1-requires-clause-t2_has_head c =
    let i = c.loop-f.invariant in
    let p = i.passing in
    let set = bit_is i.of_head c.bit.ensures c.loop-f-test.true in
    list_some p 1 (omega arith) (set_front p.dir.t2 (set p.dir p.shown))

pub raise-requires-clause-room : goal.raise-requires-clause-room
raise-requires-clause-room c =
    let i = c.loop-f.invariant in
    passing_room (moved i.passing i.of_head c.bit.ensures c.loop-f-test.true c.t2_head_to_t1.ensures).between

pub raise-requires-clause-raisable : goal.raise-requires-clause-raisable
raise-requires-clause-raisable c =
    let i = c.loop-f.invariant in
    let p = (moved i.passing i.of_head c.bit.ensures c.loop-f-test.true c.t2_head_to_t1.ensures).between in
    omega (arith, p.accounts, counts_cached p.accounts, passing_header p)

pub head_flags-f-requires-in-loop-f-clause-room : goal.head_flags-f-requires-in-loop-f-clause-room
head_flags-f-requires-in-loop-f-clause-room c =
    let i = c.loop-f.invariant in
    passing_room
    (looked i.passing i.of_head c.bit.ensures c.loop-f-test.true c.t2_head_to_t1.ensures c.raise.ensures).passing

pub loop-f-smaller : goal.loop-f-smaller
loop-f-smaller c =
    let i = c.loop-f.invariant in
    let l = looked i.passing i.of_head c.bit.ensures c.loop-f-test.true c.t2_head_to_t1.ensures c.raise.ensures in
    rw c.turned-now.ensures (omega (arith, l.passing.accounts.left))

pub loop-f-preserved : goal.loop-f-preserved
loop-f-preserved c =
    let i = c.loop-f.invariant in
    let l = looked i.passing i.of_head c.bit.ensures c.loop-f-test.true c.t2_head_to_t1.ensures c.raise.ensures in
    rw c.turned-now.ensures
    (record { passing = l.passing; underway = goes-on i.underway l; of_head = c.head_flags-f-in-loop-f.ensures })

pub returns : goal.returns
returns c =
    let i = c.loop-f.invariant in
    record {
      passing = i.passing;
      ends = ends_here i.underway
          (λ h holds. first_stops h (bit_is i.of_head c.bit.ensures c.loop-f-test.false h.dir holds.shown));
    }
