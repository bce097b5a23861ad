-- CAR's evict, trim and place: the evict part stops by itself and demotes one page, trim leaves room for a new one, and
-- every outcome of a request keeps what soundness asks of CAR alone.
use mathlib.Core.Path.{◌≡◌, refl, ◌∙◌, subst}
use mathlib.Core.Bool.{true}
use mathlib.Core.List.{List, [], ◌∷◌}
use Prim.Native.Nat.{ℕ, ◌+◌, ◌*◌, ◌≤◌, ◌<◌}
use native.Mathlib.Omega.{arith}
use lib.Dec.{eqb}
use borrow.Author.Tests.{eqb-true, eqb-false, eq-eqb, ne_eqb}
use Rattle.terms.specs.Choice.{∣◌∣}
use Rattle.terms.proofs.Choice.{by_test, either}
use Rattle.figures.specs.Entry.{Entry, new_short, cleared, demoted, bits, long, has, drop_head}
use Rattle.figures.specs.Directory.{Directory, T1, T2, B1, B2, with_list, hit, place_new}
use Rattle.figures.specs.Directory.{cached, remembered, in_cache, t1_at_target}
use Rattle.figures.specs.Hand.{Hand, begin, Look, again, stop, none, here, back}
use Rattle.figures.specs.Car.{look, choose, evict, trim, place_b1, place_b2}
use Rattle.figures.specs.Demands.{CarStops, T2StaysChosen, Evicts, CarTrimHasHead}
use Rattle.laws.proofs.Entries.{set_bits, clear_bits}
use Rattle.laws.proofs.Lists.{length_tail, length_head_dropped, length_marked, length_without_at_most}
use Rattle.laws.proofs.Lists.{total_tail, total_head_dropped, total_without, total_marked_same}
use Rattle.laws.proofs.Repeats.{ComesTo, EndsWith, repeat_ends}
use Rattle.laws.proofs.Facts.{Shared, CarFacts, Opened, Trimmed, Left}
use Rattle.laws.proofs.Placing.{Open, came_back}
use Rattle.laws.proofs.Turns.{holding, Turned, not_turned, turned_to, Exchanged, turned_on, by_choice}
use Rattle.laws.proofs.Turns.{Vacated, evicted_t1, evicted_t2, dropped_b1, dropped_b2}
use Rattle.laws.proofs.Turns.{trimmed_not, trimmed_b1, trimmed_b2}

-- The accounts that a hand keeps; what looks keep, and what the last one leaves, which moves and clears no bit.

record CarAccounted (more : ℕ) (a : Hand) : Type 0 where
  own : CarFacts a.dir
  moves_are_bits : a.moves ≡ a.cleared + more

record CarTurning (d : Directory) (a : Hand) : Type 0 where
  turned : Turned d a
  accounted : CarAccounted 0 a

record CarOutcome (d : Directory) (z : Hand) : Type 0 where
  evicted : Vacated 1 d z
  accounted : CarAccounted 1 z

abbrev left : Hand → ℕ
left a = in_cache bits a.dir

module _ (d : Directory) (shared : Shared d) (own : CarFacts d) (full : cached d ≡ d.c) where
  abbrev CarLooked : Hand → Look → Type 0
  CarLooked = ComesTo (CarTurning d) (CarOutcome d) left

  -- A head with its bit set goes to T2's tail.
  turns : {a : Hand} {t1 t2 : List Entry} (e : Entry) → e.bit ≡ true → CarTurning d a → Exchanged e e t1 t2 a.dir
      → ∣ t1 ∣ ≤ ∣ a.dir.t1 ∣ → CarLooked a (again (turned_to e t1 t2 a.dir.q a.n_s a.n_l a))
  turns e set t exchanged fewer = record {
    good = record {
      turned = turned_on t.turned e e refl exchanged;
      accounted = omega (arith, exchanged long, set_bits e set);
    };
    less = omega (arith, exchanged bits, set_bits e set);
  }

  from_t1 : (l : List Entry) (a : Hand) → let h = holding T1 l a in
      CarTurning d h → 1 ≤ ∣ l ∣ → CarLooked h (look T1 B1 l h)
  from_t1 [] a t some = absurd (omega arith)
  from_t1 (e ∷ es) a t some =
      by_test (CarLooked (holding T1 (e ∷ es) a)) e.bit
      (λ set. turns e set t (λ count. omega (arith, total_tail count a.dir.t2 (cleared e))) (omega arith))
      (λ clear. record {
        evicted = evicted_t1 shared e es a t.turned (clear_bits e clear).0;
        accounted = omega (arith, total_tail long a.dir.b1 (demoted e), length_tail a.dir.b1 (demoted e));
      })

  from_t2 : (l : List Entry) (a : Hand) → let h = holding T2 l a in
      CarTurning d h → 1 ≤ ∣ l ∣ → CarLooked h (look T2 B2 l h)
  from_t2 [] a t some = absurd (omega arith)
  from_t2 (e ∷ es) a t some =
      by_test (CarLooked (holding T2 (e ∷ es) a)) e.bit
      (λ set. turns e set t (λ count. omega (arith, total_tail count es (cleared e))) (omega arith))
      (λ clear. record {
        evicted = evicted_t2 shared e es a t.turned (clear_bits e clear).0;
        accounted = omega (arith, total_tail long a.dir.b2 (demoted e));
      })

  looks : (a : Hand) → CarTurning d a → CarLooked a (choose a)
  looks a t = by_choice shared full (CarLooked a) t.turned (from_t1 a.dir.t1 a t) (from_t2 a.dir.t2 a t)

  ended : EndsWith choose (CarOutcome d) (begin 0 0 d) (evict d)
  unfolding evict
  ended =
      let begins : CarTurning d (begin 0 0 d) = record { turned = not_turned 0 0 d; accounted = omega arith } in
      repeat_ends choose (CarTurning d) (CarOutcome d) left looks _ _ begins (omega arith)

  pub car_stops : CarStops d
  car_stops = ended.by_itself

  pub car_evicts : Evicts d (evict d)
  car_evicts = ended.holds.evicted.evicts

  pub car_opens : Opened d (evict d).dir
  car_opens = ended.holds.evicted.opens

  pub car_remembers : remembered (evict d).dir ≡ remembered d + 1
  car_remembers = ended.holds.evicted.remembers

  pub car_opened : CarFacts (evict d).dir
  car_opened = ended.holds.accounted.own

  pub car_moves : (evict d).moves ≡ (evict d).cleared + 1
  car_moves = ended.holds.accounted.moves_are_bits

-- Once T2 is chosen: its head goes to its own tail, and T1 and p stay.

abbrev Stays : Hand → Look → Type 0
Stays a (again b) = t1_at_target b.dir ≡ t1_at_target a.dir
Stays a (stop z) = Unit {0}
Stays a none = Unit {0}

t2_stays : (l : List Entry) (a : Hand) → Stays a (look T2 B2 l a)
t2_stays [] a = tt
t2_stays (e ∷ es) a = either (Stays a) e.bit refl tt

pub t2_stays_chosen : T2StaysChosen
t2_stays_chosen a z here t2 = t2
t2_stays_chosen a z (back {b = b} is on) t2 =
    let looked : look T2 B2 a.dir.t2 a ≡ again b = rw t2 at is in
    t2_stays_chosen b z on (subst (Stays a) looked (t2_stays a.dir.t2 a) ∙ t2)

-- The places. T1 and B1 have room for a new page while the cache has room, and after trim.

with_new : (x : ℕ) (d : Directory) → CarFacts d → ∣ d.t1 ∣ + ∣ d.b1 ∣ < d.c → CarFacts (place_new x d)
unfolding place_new
with_new x d own room = omega (arith, total_tail long d.t1 (new_short x), length_tail d.t1 (new_short x))

pub car_has_room : (x : ℕ) (d : Directory) → CarFacts d → cached d < d.c → remembered d ≡ 0 → CarFacts (place_new x d)
car_has_room x d own room no-history = with_new x d own (omega arith)

module _ (x : ℕ) (h : Hand) (o : Open x h.dir) (own : CarFacts h.dir) where
  pub car_places_b1 : has x h.dir.b1 ≡ true → Left CarFacts x h.dir (place_b1 x h)
  unfolding place_b1
  car_places_b1 found =
      let e = new_short x in
      let b1 = h.dir.b1 in
      let t2 = h.dir.t2 in
      came_back e b1 h.dir _ o found (omega (arith, o.bounds)) refl refl
      (λ count. omega (arith, total_tail count t2 e)) (λ count. omega arith)
      (omega (arith, total_without long x b1, length_without_at_most x b1, total_tail long t2 e))

  pub car_places_b2 : has x h.dir.b2 ≡ true → Left CarFacts x h.dir (place_b2 x h)
  unfolding place_b2
  car_places_b2 found =
      let e = new_short x in
      let b2 = h.dir.b2 in
      let t2 = h.dir.t2 in
      came_back e b2 h.dir _ o found (omega (arith, o.bounds)) refl refl
      (λ count. omega (arith, total_tail count t2 e)) (λ count. omega arith)
      (omega (arith, total_without long x b2, total_tail long t2 e))

pub car_hits : (x : ℕ) (d : Directory) → CarFacts d → CarFacts (hit x d)
car_hits x d own =
    let same = total_marked_same long (λ e. refl) x in
    either CarFacts (has x d.t1) (omega (arith, same d.t1, length_marked x d.t1)) (omega (arith, same d.t2))

-- Trim, with one page free.

module _ (d : Directory) (one_free : cached d + 1 ≡ d.c) (t1_b1_fit : ∣ d.t1 ∣ + ∣ d.b1 ∣ ≤ d.c) where
  trim_leaves : (P : Directory → Type 0)
      → (∣ d.t1 ∣ + ∣ d.b1 ∣ < d.c → ¬ (remembered d ≡ d.c + 1) → P d)
      → (1 ≤ ∣ d.b1 ∣ → P (with_list B1 (drop_head d.b1) d))
      → (∣ d.t1 ∣ + ∣ d.b1 ∣ < d.c → 1 ≤ ∣ d.b2 ∣ → P (with_list B2 (drop_head d.b2) d))
      → P (trim d)
  unfolding trim
  trim_leaves P all less-b1 less-b2 =
      by_test P (eqb (∣ d.t1 ∣ + ∣ d.b1 ∣) d.c) (λ at_c. less-b1 (omega (arith, eqb-true)))
      (λ below. by_test P (eqb (cached d + remembered d) (2 * d.c))
      (λ at-2c. less-b2 (omega (arith, eqb-false)) (omega (arith, eqb-true, eqb-false)))
      (λ below-2c. all (omega (arith, eqb-false)) (omega (arith, eqb-false))))

  pub car_trim_has_head : CarTrimHasHead d
  unfolding trim
  car_trim_has_head = record {
    drops-B1 = λ at_c. rw (eq-eqb _ _ at_c) (dropped_b1 d (omega arith));
    drops-B2 = λ below at-2c. rw (ne_eqb _ _ below, eq-eqb _ _ at-2c) (dropped_b2 d (omega arith));
  }

  pub car_trims : remembered d ≤ d.c + 1 → Trimmed d (trim d)
  car_trims history =
      trim_leaves (Trimmed d) (λ room fits. trimmed_not d (omega arith)) (trimmed_b1 d history)
      (λ room. trimmed_b2 d history)

  pub car_places_new : CarFacts d → (x : ℕ) → CarFacts (place_new x (trim d))
  car_places_new own x =
      let roomy = trim_leaves (λ d'. CarFacts d' × (∣ d'.t1 ∣ + ∣ d'.b1 ∣ < d'.c)) (λ room fits. omega arith)
      (λ some. omega (arith, total_head_dropped long d.b1, length_head_dropped d.b1))
      (λ room some. omega (arith, total_head_dropped long d.b2)) in
      with_new x (trim d) roomy.0 roomy.1
