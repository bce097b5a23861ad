-- The evict part from a full directory of CART: its counts at the start, and what it leaves, which is what place needs.
-- The counts are those of T1 and T2 before and after it.
use mathlib.Core.Path.{◌≡◌, refl, ◌∙◌}
use mathlib.Core.List.{List}
use Prim.Native.Nat.{ℕ, ◌+◌, ◌-◌}
use native.Mathlib.Omega.{arith}
use lib.ListN.{length-append}
use Rattle.terms.specs.Policies.{cart}
use Rattle.figures.specs.Entry.{bits, long, total}
use Rattle.figures.specs.Directory.{in_cache}
use Rattle.figures.specs.Words.{n_t1, n_t2, decode}
use Rattle.figures.specs.Cart.{cost, counted, evict}
use Rattle.figures.specs.Demands.{CartStops}
use Rattle.laws.proofs.Lists.{total_append, total_at_most, bits_at_most_one, short_and_long}
use Rattle.laws.proofs.Facts.{CartFacts}
use Rattle.laws.proofs.Soundness.{cart_iff}
use Rattle.laws.proofs.Cart.{cost_at_most_two, cart_stops, cart_opens, cart_opened, cart_counts}
use Rattle.engine.specs.declared.Hand.{Hand}
use Rattle.engine.specs.declared.counts.Kept.{Kept}
use Rattle.engine.specs.declared.counts.AfterEvict.{AfterEvict}
use Rattle.engine.specs.Passes.{Passing, ShowsHand, EvictedWithCounts}
use Rattle.entries.specs.Holds.{Holds}
use Rattle.entries.specs.Flags.{of_flag}
use Rattle.entries.specs.Leaves.{OfEntries}
use Rattle.entries.specs.Returning.{Full, Freed}
use Rattle.entries.proofs.Laid.{header}
use Rattle.entries.proofs.Reading.{told, cache_held}
use Rattle.entries.proofs.Rooms.{Filled, filled, freed}
use Rattle.cart.specs.Passing.{CountsFit}

-- What is kept at the start, where n pages are cached and so many of them are L.
abbrev pub kept_at_start : ℕ → ℕ → Hand → Kept
kept_at_start n longs hand = record { short = record { 0 = n - longs }; long = record { 0 = longs }; hand = hand }

module _ {w : List ℕ} (f : Full cart w) where
  abbrev held : Filled cart w
  held = filled f

  own : CartFacts (decode w)
  own = (cart_iff (decode w)).0 held.own

  pub stops : CartStops (decode w)
  stops = cart_stops (decode w) held.shared own held.full

  -- What `count` says of the entries of T1 and T2; and no move is made.
  module _ {longs : ℕ} (counts : OfEntries w 8 (n_t1 w + n_t2 w) (λ l. longs ≡ total (of_flag 2) l))
      {hand : Hand} (none : (hand.moves ≡ 0) × (hand.cleared ≡ 0)) where
    counts_longs : longs ≡ in_cache long (decode w)
    counts_longs =
        let d = decode w in
        let r = header d w held.is in
        told (cache_held d w held.is) counts refl (simp length-append (omega arith))
        ∙ total_append long d.t1 d.t2

    pub begins_passing : Passing Holds w (kept_at_start (n_t1 w + n_t2 w) longs hand)
    begins_passing =
        let d = decode w in
        let r = header d w held.is in
        let n = counts_longs in
        let most-t1 = total_at_most cost 2 cost_at_most_two d.t1 in
        let most-t2 = total_at_most bits 1 bits_at_most_one d.t2 in
        record {
          dir = d;
          shown = held.is;
          accounts = omega (arith, held.shared, own, held.full, short_and_long d.t1, short_and_long d.t2);
        }

    pub begins_shown : ShowsHand Holds (counted (decode w)) w (kept_at_start (n_t1 w + n_t2 w) longs hand)
    unfolding begins_passing
    begins_shown = record { shown = held.is; keeps = omega (arith, begins_passing.accounts) }

  pub opened : {W : List ℕ} {r : AfterEvict} → EvictedWithCounts Holds (evict (decode w)) r W
      → Freed W × CountsFit W r.short r.long
  opened {W} e =
      let d = decode w in
      let d' = (evict d).dir in
      let shown = e.evicted.shown in
      let counts = cart_counts d held.shared own held.full in
      let h = header d' W shown in (
        freed held d' shown (cart_opens d held.shared own held.full),
        omega (
          arith,
          cart_opened d held.shared own held.full,
          e.short_is,
          e.long_is,
          counts.0,
          counts.1,
          short_and_long d'.t1,
          short_and_long d'.t2,
        ),
      )
