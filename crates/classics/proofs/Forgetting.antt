-- The head whose bit is clear, forgotten: the repeat ends there, at the definition's hand, and the page that is asked
-- for is new.
use mathlib.Core.Path.{◌≡◌, refl, ◌∙◌, subst}
use mathlib.Core.List.{List}
use Prim.Native.Nat.{ℕ, ◌+◌, ◌≤◌}
use native.Mathlib.Omega.{arith}
use lib.ListN.{length, get_or}
use Rattle.figures.specs.Entry.{drop_head}
use Rattle.figures.specs.Directory.{T1, place_new}
use Rattle.figures.specs.Words.{decode}
use Rattle.figures.specs.Hand.{Hand, forget, stop, last}
use Rattle.figures.specs.Classics.{clock_look, clock_evict, trim}
use Rattle.figures.specs.Policy.{clock_policy}
use Rattle.laws.proofs.Lists.{empty}
use Rattle.laws.proofs.Repeats.{ends_once, leads_to_end}
use Rattle.laws.proofs.Classics.{Forgot, clock_stops, clock_forgets}
use Rattle.engine.specs.declared.Hand.{Hand as Counted}
use Rattle.engine.specs.declared.Evicted.{Evicted}
use Rattle.engine.specs.declared.kinds.Kind.{Kind}
use Rattle.engine.specs.Shown.{Makes, EvictedAs, PlacedAs, moved_once}
use Rattle.engine.specs.Heads.{front_of}
use Rattle.engine.proofs.Heads.{some_front}
use Rattle.engine.proofs.Placed.{placed_new}
use Rattle.entries.specs.Holds.{Holds}
use Rattle.entries.specs.Leaves.{ListHeadDropped}
use Rattle.entries.specs.Stretches.{Room, start_of}
use Rattle.entries.proofs.Heads.{page_read}
use Rattle.entries.proofs.Rooms.{room_for_new}
use Rattle.classics.specs.Queues.{FullQueue, Passed}
use Rattle.classics.proofs.Passing.{held, own, some}

module _ {w : List ℕ} (f : FullQueue w) where
  abbrev z : Hand
  z = clock_evict (decode w)

  forgot : Forgot (decode w) z
  forgot = clock_forgets (decode w) (held f).shared (own f) (held f).full

  -- The hand has counted k, and the head's page is answered, list 1 and a move more.
  pub evicted_as : {v v' : List ℕ} {k : Counted} (out : Evicted) → Passed w k v → ListHeadDropped 0 v v'
      → out.page ≡ get_or v 8 0 → out.list ≡ 1 → out.hand ≡ moved_once k
      → EvictedAs Holds z out v'
  evicted_as {v} {v'} out p dropped page list moved =
      let l = p.led in
      let d = l.at.dir in
      let e = front_of d.t1 in
      let front = some_front d.t1 (omega (arith, l.queue)) in
      let stops : clock_look l.at ≡ stop (forget T1 e (drop_head d.t1) l.at) = rw (front, p.clear) in
      let same = ends_once (leads_to_end l.leads (last stops))
      (clock_stops (decode w) (held f).shared (own f) (held f).full) in
      subst (λ (z : Hand). EvictedAs Holds z out v') same
      (record {
        page_is = page ∙ page_read {i = 0} (omega arith) (some l) refl d l.shown;
        list_is = list;
        counts = rw moved (omega (arith, l.counts));
        shown = dropped d l.shown (omega (arith, l.queue));
      })

  module _ {v : List ℕ} (shown : Holds z.dir v) where
    pub room_for_page : Room v × (start_of 4 v + 2 ≤ length v)
    room_for_page =
        let o = forgot.evicted.opens in
        room_for_new (decode w) z.dir shown
        (record { one_fits = omega (arith, (held f).full, o.one_less, forgot.own); same_c = o.same_c })
        (held f).shared.bounds.of_c.c_most

    pub placed_as_new : (x : ℕ) {v' : List ℕ} → Makes Holds (place_new x) v v' → PlacedAs Holds clock_policy x z Kind.New v'
    unfolding trim
    placed_as_new x makes =
        placed_new Holds clock_policy x z (rw (empty z.dir.b1 (omega (arith, forgot.own))))
        (rw (empty z.dir.b2 (omega (arith, forgot.own)))) (makes z.dir shown)
