-- The counts at the start are those of T1 and T2, and both passes end at the definition's hands.
-- The demotion is of the last one.
use Rattle.std.proofs.Common.{◌≡◌, List, ℕ, ◌+◌, refl, sym, ◌∙◌, arith}
use Rattle.figures.specs.Entry.{total}
use Rattle.figures.specs.Words.{n_t1, n_t2}
use Rattle.figures.specs.Cart.{evict}
use Rattle.engine.proofs.Passes.{passes_end}
use Rattle.entries.specs.Flags.{of_flag}
use Rattle.entries.specs.Leaves.{FlagCounted, OfEntries}
use Rattle.entries.proofs.Rooms.{filled}
use Rattle.cart.proofs.Words.{passing_room}
use Rattle.cart.proofs.Evicting.{stops, begins_passing, begins_shown}
use Rattle.cart.proofs.evict.Goals as goal

-- What is counted is the L pages of T1 and T2.
counts : {w : List ℕ} {n longs : ℕ} → FlagCounted w 8 n 2 longs → n ≡ n_t1 w + n_t2 w
    → OfEntries w 8 (n_t1 w + n_t2 w) (λ l. longs ≡ total (of_flag 2) l)
counts counted all P R l parts first many = counted.1 P R l parts first (many ∙ sym all)

pub bounds-dir-4 : goal.bounds-dir-4
bounds-dir-4 c = omega (arith, (filled c.requires).room)

pub bounds-dir-5 : goal.bounds-dir-5
bounds-dir-5 c = omega (arith, (filled c.requires).room)

pub count-longs-requires : goal.count-longs-requires
count-longs-requires c = omega (arith, (filled c.requires).room)

pub first_pass-kept-requires-clause-room : goal.first_pass-kept-requires-clause-room
first_pass-kept-requires-clause-room c = (filled c.requires).room

pub first_pass-kept-requires-clause-passing : goal.first_pass-kept-requires-clause-passing
first_pass-kept-requires-clause-passing c =
    begins_passing c.requires (counts c.count-longs.ensures refl) c.default.ensures

pub second_pass-kept-requires-clause-room : goal.second_pass-kept-requires-clause-room
second_pass-kept-requires-clause-room c = passing_room c.first_pass-kept.ensures.passing

pub demote-requires-clause-room : goal.demote-requires-clause-room
demote-requires-clause-room c = passing_room c.second_pass-kept.ensures.0.passing

pub returns : goal.returns
unfolding evict
returns c =
    let shown = begins_shown c.requires (counts c.count-longs.ensures refl) c.default.ensures in
    c.demote.ensures _
    (passes_end (stops c.requires) shown c.first_pass-kept.ensures.ends c.second_pass-kept.ensures.0.ends)
