-- The laws of the rows, put together of what Car, Cart, Classics and Placing prove of their functions.
-- What holds of each row holds of every known one by by-policy.
use mathlib.Core.Path.{◌≡◌, refl}
use mathlib.Core.Bool.{true, ◌||◌, false≢true}
use mathlib.Core.List.{List, [], ◌∷◌, ◌++◌}
use Prim.Native.Nat.{ℕ, ◌+◌, ◌*◌, ◌≤◌}
use native.Mathlib.Omega.{arith}
use lib.Dec.{eqb, ltb}
use Rattle.terms.specs.Choice.{∣◌∣}
use Rattle.terms.specs.Policies.{fifo, lru, known_policy}
use Rattle.terms.proofs.Choice.{either}
use Rattle.terms.proofs.ByPolicy.{by-policy}
use Rattle.figures.specs.Entry.{Entry, new_short, new_long, bits, total, has, without, only}
use Rattle.figures.specs.Directory.{Directory, hit, place_new, cached, remembered, in_cache}
use Rattle.figures.specs.Car as Car
use Rattle.figures.specs.Cart as Cart
use Rattle.figures.specs.Classics as Classics
use Rattle.figures.specs.Policy.{Policy, car_policy, cart_policy, clear_policy, clock_policy, policy_of}
use Rattle.figures.specs.Demands.{RowsNumbered}
use Rattle.laws.proofs.Lists.{is, empty, total_tail, total_at_most, total_renewed}
use Rattle.laws.proofs.Lists.{total_marked_at_most, bits_at_most_one}
use Rattle.laws.proofs.Facts.{CarFacts, CartFacts, AloneFacts, ClearFacts, Shared, Left}
use Rattle.laws.proofs.Soundness.{car_iff, cart_iff, alone_iff, clear_iff}
use Rattle.laws.proofs.Turns.{trimmed_not}
use Rattle.laws.proofs.Placing.{hit_either, same_pages_leave, hit_leaves}
use Rattle.laws.proofs.Car.{car_evicts, car_moves, car_opens, car_opened, car_trims}
use Rattle.laws.proofs.Car.{car_places_new, car_places_b1, car_places_b2, car_hits, car_has_room}
use Rattle.laws.proofs.Cart.{cost_at_most_two, raise_leaves}
use Rattle.laws.proofs.Cart.{cart_evicts, cart_moves, cart_opens, cart_opened, cart_trims}
use Rattle.laws.proofs.Cart.{cart_places_new, cart_places_b1, cart_places_b2, cart_hits, cart_has_room}
use Rattle.laws.proofs.Classics.{Forgot, clock_forgets, clear_forgets, alone_new, new_bits}
use Rattle.laws.proofs.Classics.{no_bits, alone_marked, clear_renewed}
use Rattle.laws.proofs.Laws.{Keeps, Pays, Lawful}

-- The set bits are at most the pages, and a hit that marks sets one at most.

bits_fit : (d : Directory) → in_cache bits d ≤ cached d
bits_fit d =
    let most = total_at_most bits 1 bits_at_most_one in
    omega (arith, most d.t1, most d.t2)

marked_bits : (x : ℕ) (d : Directory) → in_cache bits (hit x d) ≤ in_cache bits d + 1
marked_bits x d =
    hit_either (λ d'. in_cache bits d' ≤ in_cache bits d + 1) x d
    (omega (arith, total_marked_at_most bits 1 (λ e. omega arith) x d.t1))
    (omega (arith, total_marked_at_most bits 1 (λ e. omega arith) x d.t2))

-- CAR

car_keeps : Keeps car_policy CarFacts
car_keeps = record {
  opens = car_opens;
  opened = car_opened;
  trims = λ d free history own. car_trims d free own.t1_b1_fit history;
  places_new = λ x d free own. car_places_new d free own.t1_b1_fit own x;
  has_room = car_has_room;
  hits = λ x d shared own found. hit_leaves x d shared found (car_hits x d own);
  back_b1 = car_places_b1;
  back_b2 = car_places_b2;
}

car_trim_owes : (d : Directory) → in_cache bits (Car.trim d) ≡ in_cache bits d
unfolding Car.trim
car_trim_owes d =
    either Same (eqb (∣ d.t1 ∣ + ∣ d.b1 ∣) d.c) refl
    (either Same (eqb (cached d + remembered d) (2 * d.c)) refl refl)
  where
    Same : Directory → Type 0
    Same d' = in_cache bits d' ≡ in_cache bits d

car_pays : Pays car_policy CarFacts
unfolding Car.place_b1 Car.place_b2
car_pays = record {
  evicts = λ d shared own full.
      omega (arith, car_moves d shared own full, (car_evicts d shared own full).bits_accounted);
  trims = car_trim_owes;
  hits = marked_bits;
  new = λ x d. omega (arith, new_bits x d);
  back_b1 = λ x h. omega (arith, total_tail bits h.dir.t2 (new_short x));
  back_b2 = λ x h. omega (arith, total_tail bits h.dir.t2 (new_short x));
  fresh_owes = λ n c. refl;
}

car_lawful : Lawful car_policy
car_lawful = record {
  Own = CarFacts;
  own_iff = car_iff;
  fresh_owns = λ n c. omega arith;
  evicts = car_evicts;
  moves_at_most = λ d shared own full.
      omega (arith, car_moves d shared own full, (car_evicts d shared own full).bits_accounted, bits_fit d);
  keeps = car_keeps;
  pays = car_pays;
}

-- CART

cart_keeps : Keeps cart_policy CartFacts
cart_keeps = record {
  opens = cart_opens;
  opened = cart_opened;
  trims = λ d free history own. cart_trims d history;
  places_new = λ x d free own. cart_places_new x d own;
  has_room = λ x d own room none. cart_has_room x d own;
  hits = λ x d shared own found. hit_leaves x d shared found (cart_hits x d own);
  back_b1 = cart_places_b1;
  back_b2 = cart_places_b2;
}

cart_trim_owes : (d : Directory) → Cart.owing (Cart.trim d) ≡ Cart.owing d
unfolding Cart.trim
cart_trim_owes d =
    either Same (eqb (remembered d) (d.c + 1))
    (either Same (ltb d.q ∣ d.b1 ∣ || eqb ∣ d.b2 ∣ 0) refl refl) refl
  where
    Same : Directory → Type 0
    Same d' = Cart.owing d' ≡ Cart.owing d

long_lands : (x : ℕ) (d : Directory)
    → total Cart.cost (d.t1 ++ (new_long x ∷ [])) + 2 * total bits d.t2 + 1 ≤ Cart.owing d + 2
long_lands x d = omega (arith, total_tail Cart.cost d.t1 (new_long x))

cart_pays : Pays cart_policy CartFacts
unfolding place_new Cart.place_b1 Cart.place_b2
cart_pays = record {
  evicts = cart_moves;
  trims = cart_trim_owes;
  hits = λ x d.
      hit_either (λ d'. Cart.owing d' ≤ Cart.owing d + 2) x d
      (omega (arith, total_marked_at_most Cart.cost 2 (λ e. omega arith) x d.t1))
      (omega (arith, total_marked_at_most bits 1 (λ e. omega arith) x d.t2));
  new = λ x d. omega (arith, total_tail Cart.cost d.t1 (new_short x));
  back_b1 = λ x h. long_lands x h.dir;
  back_b2 = λ x h.
      raise_leaves (λ d. Cart.owing d + 1 ≤ Cart.owing h.dir + 2) h.n_s (Cart.back_from_b2 x h)
      (λ q fits. long_lands x h.dir);
  fresh_owes = λ n c. refl;
}

cart_lawful : Lawful cart_policy
cart_lawful = record {
  Own = CartFacts;
  own_iff = cart_iff;
  fresh_owns = λ n c. omega arith;
  evicts = cart_evicts;
  moves_at_most = λ d shared own full.
      let most-t1 = total_at_most Cart.cost 2 cost_at_most_two d.t1 in
      let most-t2 = total_at_most bits 1 bits_at_most_one d.t2 in
      omega (arith, cart_moves d shared own full);
  keeps = cart_keeps;
  pays = cart_pays;
}

-- FIFO, CLOCK AND LRU

-- What each of the three has, from which soundness is proved once over all of them. Own is what its test says: T1
-- alone, and no more where no more bits are set.
record Classic (π : Policy) (Own : Directory → Type 0) : Type 0 where
  alone : (d : Directory) → Own d → AloneFacts d
  fewer_bits : (d d' : Directory) → Own d → AloneFacts d' → in_cache bits d' ≤ in_cache bits d → Own d'
  forgets : (d : Directory) → Shared d → Own d → cached d ≡ d.c → Forgot d (π.evict d)
  hits : (x : ℕ) (d : Directory) → Shared d → Own d → 1 ≤ in_cache (is x) d → Left Own x d (π.hit x d)
  trims_none : (d : Directory) → π.trim d ≡ d

none_found : (x : ℕ) (l : List Entry) → ∣ l ∣ ≡ 0 → has x l ≡ true → ⊥
none_found x l none found = false≢true (rw (empty l none) at found)

module _ (π : Policy) (Own : Directory → Type 0) (classic : Classic π Own) where
  with_new : (x : ℕ) (d : Directory) → Own d → Own (place_new x d)
  with_new x d own =
      classic.fewer_bits d (place_new x d) own (alone_new x d (classic.alone d own)) (omega (arith, new_bits x d))

  classic_keeps : Keeps π Own
  classic_keeps = record {
    opens = λ d shared own full. (classic.forgets d shared own full).evicted.opens;
    opened = λ d shared own full.
        let f = classic.forgets d shared own full in
        classic.fewer_bits d _ own f.own (omega (arith, f.evicted.evicts.bits_accounted));
    trims = λ d free history own. rw (classic.trims_none d) (trimmed_not d (omega (arith, classic.alone d own)));
    places_new = λ x d free own. rw (classic.trims_none d) (with_new x d own);
    has_room = λ x d own room none. with_new x d own;
    hits = classic.hits;
    back_b1 = λ x h o own found. absurd (none_found x h.dir.b1 (omega (arith, classic.alone h.dir own)) found);
    back_b2 = λ x h o own found. absurd (none_found x h.dir.b2 (omega (arith, classic.alone h.dir own)) found);
  }

-- CLOCK, whose own rule is that T1 is alone.

clock_classic : Classic clock_policy AloneFacts
unfolding Classics.trim
clock_classic = record {
  alone = λ d own. own;
  fewer_bits = λ d d' own alone fewer. alone;
  forgets = clock_forgets;
  hits = λ x d shared own found. hit_leaves x d shared found (alone_marked x d own);
  trims_none = λ d. refl;
}

clock_pays : Pays clock_policy AloneFacts
unfolding Classics.trim Classics.place
clock_pays = record {
  evicts = λ d shared own full.
      let f = clock_forgets d shared own full in
      omega (arith, f.moves_are_bits, f.evicted.evicts.bits_accounted);
  trims = λ d. refl;
  hits = marked_bits;
  new = λ x d. omega (arith, new_bits x d);
  back_b1 = λ x h. omega (arith, new_bits x h.dir);
  back_b2 = λ x h. omega (arith, new_bits x h.dir);
  fresh_owes = λ n c. refl;
}

clock_lawful : Lawful clock_policy
clock_lawful = record {
  Own = AloneFacts;
  own_iff = alone_iff;
  fresh_owns = λ n c. omega arith;
  evicts = λ d shared own full. (clock_forgets d shared own full).evicted.evicts;
  moves_at_most = λ d shared own full.
      let f = clock_forgets d shared own full in
      omega (arith, f.moves_are_bits, f.evicted.evicts.bits_accounted, bits_fit d);
  keeps = classic_keeps clock_policy AloneFacts clock_classic;
  pays = clock_pays;
}

-- FIFO and LRU, whose bits stay clear: they differ in the hit alone.

one_move : (d : Directory) → Shared d → ClearFacts d → cached d ≡ d.c → (Classics.evict d).moves ≡ 1
one_move d shared own full =
    let f = clear_forgets d shared own full in
    omega (arith, f.moves_are_bits, f.evicted.evicts.bits_accounted, no_bits d own)

module _ (number : ℕ) (hits : ℕ → Directory → Directory)
    (hit-left : (x : ℕ) (d : Directory) → Shared d → ClearFacts d → 1 ≤ in_cache (is x) d
    → Left ClearFacts x d (hits x d)) where
  clear_classic : Classic (clear_policy number hits) ClearFacts
  unfolding Classics.trim
  clear_classic = record {
    alone = λ d own. own.alone;
    fewer_bits = λ d d' own alone fewer. record { alone = alone; bits_clear = omega (arith, no_bits d own) };
    forgets = clear_forgets;
    hits = hit-left;
    trims_none = λ d. refl;
  }

  clear_lawful : Lawful (clear_policy number hits)
  clear_lawful = record {
    Own = ClearFacts;
    own_iff = clear_iff;
    fresh_owns = λ n c. omega arith;
    evicts = λ d shared own full. (clear_forgets d shared own full).evicted.evicts;
    moves_at_most = λ d shared own full. omega (arith, one_move d shared own full);
    keeps = classic_keeps (clear_policy number hits) ClearFacts clear_classic;
    pays = record {
      evicts = λ d shared own full. omega (arith, one_move d shared own full);
      trims = λ d. refl;
      hits = λ x d. omega arith;
      new = λ x d. omega arith;
      back_b1 = λ x h. omega arith;
      back_b2 = λ x h. omega arith;
      fresh_owes = λ n c. refl;
    };
  }

fifo_lawful : Lawful (clear_policy fifo Classics.ignore)
unfolding Classics.ignore
fifo_lawful =
    clear_lawful fifo Classics.ignore
    (λ x d s own found. record { shared = s; own = own; is_cached = found; same_policy = refl; same_c = refl })

lru_lawful : Lawful (clear_policy lru Classics.renew)
unfolding Classics.renew
lru_lawful =
    clear_lawful lru Classics.renew
    (λ x d shared own found.
    same_pages_leave x d (without x d.t1 ++ only x d.t1) d.t2 shared found
    (λ count unread. omega (arith, total_renewed count x d.t1)) (clear_renewed x d own))

-- Every known row.
pub lawful : (n : ℕ) → known_policy n ≡ true → Lawful (policy_of n)
lawful = by-policy (λ n. Lawful (policy_of n)) car_lawful cart_lawful fifo_lawful clock_lawful lru_lawful

pub rows_numbered : RowsNumbered
rows_numbered = by-policy (λ n. (policy_of n).number ≡ n) refl refl refl refl refl
