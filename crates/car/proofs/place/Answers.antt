-- A page that comes back is placed by that alone; a new one has trim before it, which leaves room for it.
use Rattle.std.proofs.Common.{◌≡◌, refl, sym, ◌∙◌, Bool, true, false, rules, List, ℕ, ◌+◌, ◌≤◌, arith}
use denote.Enum.Bare.{sameb, same_true, same_false}
use Rattle.terms.specs.Choice.{∣◌∣}
use Rattle.figures.specs.Entry.{new_short, has}
use Rattle.figures.specs.Directory.{Directory, T2}
use Rattle.figures.specs.Words.{decode, size, n_t1, n_b1, n_b2}
use Rattle.figures.specs.Car as Car
use Rattle.figures.specs.Policy.{car_policy}
use Rattle.engine.specs.declared.kinds.Kind.{Kind}
use Rattle.engine.specs.contracts.kinds.Kind.{the_type}
use Rattle.engine.specs.Shown.{Makes}
use Rattle.engine.proofs.Placed.{placed_new}
use Rattle.entries.specs.Holds.{Holds}
use Rattle.entries.specs.Stretches.{Room, start_of}
use Rattle.entries.specs.Returning.{Freed, Returned, Returns}
use Rattle.entries.proofs.ComingBack.{was_new, placed_back}
use Rattle.entries.proofs.Laid.{header}
use Rattle.entries.proofs.Rooms.{room_for_new}
use Rattle.car.proofs.Trimming.{trim_fits}
use Rattle.car.proofs.place.Goals as goal

module _ (x : ℕ) (kind : Kind) (w w' : List ℕ)
    (back : Returns x (record { b1 = n_b2 w; b2 = n_b1 w; tail = 1; flags = 0 }) w kind w') where
  -- Whichever directory the words held, the page came back to T2's tail, or it is new.
  came : (d : Directory) → Holds d w → Returned d x (new_short x) T2 ∣ d.b2 ∣ ∣ d.b1 ∣ w w' kind
  came d is = let h = header d w is in back d (new_short x) _ _ is refl refl h.b2 h.b1

  module _ (new : kind ≡ Kind.New) where
    unchanged : Freed w → w' ≡ w
    unchanged freed = (was_new (came (decode w) freed.is) new).2

    -- A new page: both histories lack it, and the words after trim hold what trim makes of what they held.
    module _ (W : List ℕ) (trims : Makes Holds Car.trim w' W) where
      trimmed : (d : Directory) → Holds d w
          → (has x d.b1 ≡ false) × (has x d.b2 ≡ false) × Holds (Car.trim d) W
      trimmed d is =
          let isnew = was_new (came d is) new in
          (isnew.0, isnew.1, trims d (is ∙ sym isnew.2))

      room_left : Freed w → n_t1 w + n_b1 w ≤ size w → Room W × (start_of 4 W + 2 ≤ ∣ W ∣)
      room_left o fit =
          let d = decode w in
          let h = header d w o.is in
          let fits = trim_fits d (omega (arith, o.one_free)) (omega (arith, o.history_most)) (omega arith) in
          room_for_new d (Car.trim d) (trimmed d o.is).2 fits (omega (arith, o.bounds))

-- What the code's test says.
new_tested : {kind : Kind} {test : Bool} → test ≡ sameb the_type kind Kind.New → test ≡ true → kind ≡ Kind.New
new_tested says is = same_true the_type (search rules) _ _ (sym says ∙ is)

old_tested : {kind : Kind} {test : Bool} → test ≡ sameb the_type kind Kind.New → test ≡ false → kind ≡ Kind.New → ⊥
old_tested says is = same_false the_type _ _ (sym says ∙ is)

pub trim-requires-clause-freed : goal.trim-requires-clause-freed
trim-requires-clause-freed c =
    let same = unchanged _ _ _ _ c.come_back-kind.ensures (new_tested c.eq.ensures c.if-eq.true) c.requires.freed in
    rw same c.requires.freed

pub trim-requires-clause-t1_b1_fit : goal.trim-requires-clause-t1_b1_fit
trim-requires-clause-t1_b1_fit c =
    let same = unchanged _ _ _ _ c.come_back-kind.ensures (new_tested c.eq.ensures c.if-eq.true) c.requires.freed in
    rw same c.requires.t1_b1_fit

pub place_new-requires-clause-room : goal.place_new-requires-clause-room
place_new-requires-clause-room c =
    (room_left _ _ _ _ c.come_back-kind.ensures (new_tested c.eq.ensures c.if-eq.true) _ c.trim.ensures
    c.requires.freed c.requires.t1_b1_fit).0

pub place_new-requires-clause-room_for_one : goal.place_new-requires-clause-room_for_one
place_new-requires-clause-room_for_one c =
    (room_left _ _ _ _ c.come_back-kind.ensures (new_tested c.eq.ensures c.if-eq.true) _ c.trim.ensures
    c.requires.freed c.requires.t1_b1_fit).1

pub returns-then-eq : goal.returns-then-eq
returns-then-eq c h is =
    let isnew = new_tested c.eq.ensures c.if-eq.true in
    let new = trimmed _ _ _ _ c.come_back-kind.ensures isnew _ c.trim.ensures h.dir is in
    let placed = c.place_new.ensures (Car.trim h.dir) new.2 in
    rw isnew (placed_new Holds car_policy _ h new.0 new.1 placed)

pub returns-else-eq : goal.returns-else-eq
unfolding Car.place_b1 Car.place_b2
returns-else-eq c h is =
    placed_back car_policy c.args.page h refl refl (came _ _ _ _ c.come_back-kind.ensures h.dir is)
    (old_tested c.eq.ensures c.if-eq.false)
