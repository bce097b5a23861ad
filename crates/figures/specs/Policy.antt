-- The policies, a row for each: all in which they differ. Nothing else of the definitions asks which policy it is.
-- A policy more is one row more here, its number in terms/specs/Policies, and one record of laws in laws/proofs/Lawful.
use Rattle.std.specs.Prelude.{Bool, List, ℕ, ◌+◌, ◌*◌, eqb, if◌then◌else◌}
use Rattle.terms.specs.Policies.{car, cart, fifo, clock, lru}
use Rattle.figures.specs.Entry.{bits}
use Rattle.figures.specs.Directory.{Directory, hit, in_cache}
use Rattle.figures.specs.Hand.{Hand}
use Rattle.figures.specs.Car as Car
use Rattle.figures.specs.Cart as Cart
use Rattle.figures.specs.Classics as Classics

pub record Policy : Type 0 where
  -- word 0 of its directories
  pub number : ℕ
  -- what soundness asks of its directories alone
  pub own_sound : List ℕ → Bool
  -- a hit; a miss in a full cache; a page that comes back from a history. A new page is placed alike by all.
  pub hit : ℕ → Directory → Directory
  pub evict : Directory → Hand
  pub trim : Directory → Directory
  pub place_b1 : ℕ → Hand → Directory
  pub place_b2 : ℕ → Hand → Directory
  -- hand moves: the most that one request takes, from c; so many a request over a run, and what a directory still owes
  pub most_moves : ℕ → ℕ
  pub moves_each : ℕ
  pub owed : Directory → ℕ

abbrev pub car_policy : Policy
car_policy = record {
  number = car;
  own_sound = Car.car_sound;
  hit = hit;
  evict = Car.evict;
  trim = Car.trim;
  place_b1 = Car.place_b1;
  place_b2 = Car.place_b2;
  most_moves = λ c. c + 1;
  moves_each = 1;
  owed = in_cache bits;
}

abbrev pub cart_policy : Policy
cart_policy = record {
  number = cart;
  own_sound = Cart.cart_sound;
  hit = hit;
  evict = Cart.evict;
  trim = Cart.trim;
  place_b1 = Cart.place_b1;
  place_b2 = Cart.place_b2;
  most_moves = λ c. 2 * c + 1;
  moves_each = 2;
  owed = Cart.owing;
}

-- FIFO and LRU differ in the hit alone.
abbrev pub clear_policy : ℕ → (ℕ → Directory → Directory) → Policy
clear_policy number hit = record {
  number = number;
  own_sound = Classics.clear_sound;
  hit = hit;
  evict = Classics.evict;
  trim = Classics.trim;
  place_b1 = Classics.place;
  place_b2 = Classics.place;
  most_moves = λ c. 1;
  moves_each = 1;
  owed = λ d. 0;
}

abbrev pub fifo_policy : Policy
fifo_policy = clear_policy fifo Classics.ignore

abbrev pub lru_policy : Policy
lru_policy = clear_policy lru Classics.renew

abbrev pub clock_policy : Policy
clock_policy = record {
  number = clock;
  own_sound = Classics.alone_sound;
  hit = hit;
  evict = Classics.clock_evict;
  trim = Classics.trim;
  place_b1 = Classics.place;
  place_b2 = Classics.place;
  most_moves = λ c. c + 1;
  moves_each = 1;
  owed = in_cache bits;
}

-- The row with that number. No known number is another than these five; LRU's row stands for all others.
abbrev pub policy_of : ℕ → Policy
policy_of n =
    if eqb n car then car_policy
    else if eqb n cart then cart_policy
    else if eqb n fifo then fifo_policy
    else if eqb n clock then clock_policy
    else lru_policy
