-- The flags tell the head's bit and filter, and with them which move the look names.
-- For each move engine's Looks has a law.
use Rattle.std.proofs.Common.{◌≡◌, Bool, true, false, List, ◌∷◌, ℕ, refl, sym, ◌∙◌, arith}
use Rattle.terms.proofs.Tests.{unless_iff}
use Rattle.figures.specs.Entry.{Entry, cleared, made_long, is_long, drop_head}
use Rattle.figures.specs.Directory.{Directory, T1}
use Rattle.figures.specs.Words.{flags}
use Rattle.figures.specs.Cart as Cart
use Rattle.engine.specs.declared.counts.Kept.{Kept}
use Rattle.engine.specs.Shown.{Makes}
use Rattle.engine.specs.Heads.{front_of, head_to}
use Rattle.engine.specs.Passes.{Passing}
use Rattle.engine.proofs.Accounts.{after_move, counts_cached, short_counted}
use Rattle.engine.proofs.Heads.{goes_front}
use Rattle.engine.proofs.Looks.{Moved, look_settles, look_goes_round, look_makes_long}
use Rattle.entries.specs.Holds.{Holds}
use Rattle.entries.specs.Flags.{Says, Becomes}
use Rattle.entries.specs.Stretches.{name_of}
use Rattle.entries.specs.Leaves.{HeadMoved}
use Rattle.cart.specs.Passing.{lengthens, HeadFlags, SecondTest}
use Rattle.cart.proofs.Words.{passing_header, passing_room}
use Rattle.cart.proofs.turn.Goals as goal

-- T1 has a head, whose flags are f, and the code's tests of f are tests of it.
module _ {f : ℕ} {w : List ℕ} (h : HeadFlags 0 f w × SecondTest true w) where
  front : (d : Directory) → Holds d w → d.t1 ≡ front_of d.t1 ∷ drop_head d.t1
  front d is = goes_front d.t1 (h.1 d is)

  bit_is : {b value : Bool} → Says (λ e. e.bit) f b → b ≡ value
      → (d : Directory) → Holds d w → (front_of d.t1).bit ≡ value
  bit_is says tested d is = sym (says (front_of d.t1) (h.0 d is)) ∙ tested

  lengthens_is : {b value : Bool} → ((d : Directory) (e : Entry) → Holds d w → f ≡ flags e → b ≡ lengthens e d)
      → b ≡ value → (d : Directory) → Holds d w → lengthens (front_of d.t1) d ≡ value
  lengthens_is says tested d is = sym (says d (front_of d.t1) is (h.0 d is)) ∙ tested

  -- The head moved to list j's tail, its flags as `change` makes them.
  head_made : (j : ℕ) (change : Entry → Entry) → ((e : Entry) → (change e).page ≡ e.page)
      → {f' : ℕ} {w' : List ℕ} → Becomes change f f' → HeadMoved 0 j f' w w'
      → Makes Holds (head_to T1 (name_of j) change) w w'
  head_made j change same becomes moved d is =
      let e = front_of d.t1 in
      moved d e (change e) (drop_head d.t1) is (front d is) (same e) (becomes e (h.0 d is))

-- T1's head is S, and T1 is long enough for it to become L.
is_short_and_long_enough : (e : Entry) (d : Directory) → lengthens e d ≡ true
    → (is_long e.filter ≡ false) × (Cart.becomes_long d ≡ true)
is_short_and_long_enough e d = (unless_iff (is_long e.filter) (Cart.becomes_long d)).0

-- T1's head, L with its bit clear, has moved to T2's tail; `lower` is left to do.
settled : {f : ℕ} {w : List ℕ} {k : Kept} → Passing Holds w k → (h : HeadFlags 0 f w × SecondTest true w)
    → {b : Bool} → Says (λ e. e.bit) f b → b ≡ false
    → {f' : ℕ} {w' : List ℕ} → Becomes cleared f f' → HeadMoved 0 1 f' w w'
    → Moved Holds Cart.second_look Cart.lower w k w' (after_move k.short k.long k.hand.cleared k)
settled p h says clear becomes moved =
    look_settles p h.1 (bit_is h says clear) (head_made h 1 cleared (λ e. refl) becomes moved)

pub overflow_sub-result : goal.overflow_sub-result
overflow_sub-result c =
    let h = c.requires.head_flags in
    let p = c.requires.passing in
    let long = lengthens_is h c.becomes_long.ensures c.if-becomes_long.true p.dir p.shown in
    let short = (is_short_and_long_enough (front_of p.dir.t1) p.dir long).0 in
    omega (arith, short_counted p.accounts (front h p.dir p.shown) short)

pub overflow_add-result : goal.overflow_add-result
overflow_add-result c =
    let p = c.requires.passing in
    omega (arith, p.accounts, counts_cached p.accounts)

pub returns-then-becomes_long : goal.returns-then-becomes_long
returns-then-becomes_long c =
    let h = c.requires.head_flags in
    let set = bit_is h c.bit.ensures c.if-bit.true in
    let long = lengthens_is h c.becomes_long.ensures c.if-becomes_long.true in
    let both = λ (d : Directory) (is : Holds d c.args.dir.now). is_short_and_long_enough (front_of d.t1) d (long d is) in
    let made = λ (e : Entry) (is : c.args.f ≡ flags e). c.made_long.ensures (cleared e) (c.cleared-plain.ensures e is) in
    rw c.turned-hand.ensures
    ((look_makes_long c.requires.passing (λ d is. (set d is, (both d is).0)) (λ d is. (both d is).1)
    (head_made h 0 (λ e. made_long (cleared e)) (λ e. refl) made c.move_head.ensures)
    ).looked c.move_head.new.dir (λ d is. is))

pub returns-then-bit : goal.returns-then-bit
returns-then-bit c =
    let h = c.requires.head_flags in
    let short = lengthens_is h c.becomes_long.ensures c.if-becomes_long.false in
    rw c.turned-hand.ensures
    ((look_goes_round c.requires.passing (bit_is h c.bit.ensures c.if-bit.true)
    (λ d is filter. rw filter at (short d is))
    (head_made h 0 cleared (λ e. refl) c.cleared-plain.ensures c.move_head-then-bit.ensures)
    ).looked c.move_head-then-bit.new.dir (λ d is. is))

pub lower-requires : goal.lower-requires
lower-requires c =
    let p = (settled c.requires.passing c.requires.head_flags c.bit.ensures c.if-bit.false c.cleared-plain.ensures
    c.move_head-2.ensures).between in
    omega (arith, p.accounts, passing_header p, passing_room p)

pub returns : goal.returns
returns c =
    rw c.moved-hand.ensures
    ((settled c.requires.passing c.requires.head_flags c.bit.ensures c.if-bit.false c.cleared-plain.ensures
    c.move_head-2.ensures).looked c.lower.new.dir c.lower.ensures)
