-- The evict part of the policy that a sound, full directory names: it stops by itself and evicts one page.
-- The policies' own laws are in Car, Cart and Classics; here they are put together.
use mathlib.Core.Path.{◌≡◌, refl}
use mathlib.Core.Bool.{true}
use Prim.Native.Nat.{ℕ, ◌+◌}
use native.Mathlib.Omega.{arith}
use Rattle.terms.specs.Policies.{car, cart, clock}
use Rattle.terms.proofs.ByPolicy.{by-policy}
use Rattle.figures.specs.Directory.{Directory, cached}
use Rattle.figures.specs.Words.{encode}
use Rattle.figures.specs.Car as Car
use Rattle.figures.specs.Cart as Cart
use Rattle.figures.specs.Classics as Classics
use Rattle.figures.specs.Policy.{policy_of}
use Rattle.figures.specs.Demands.{Sound, row_of, PublishedStopComesFirst, EvictsOne, EvictedIsRemembered}
use Rattle.figures.specs.Demands.{Forgotten, EvictedIsForgotten, CountsKept, TrimHasHead}
use Rattle.laws.proofs.Facts.{Shared, CarFacts, CartFacts, AloneFacts, ClearFacts, own_by}
use Rattle.laws.proofs.Soundness.{facts, car_iff, cart_iff, alone_iff, clear_iff}
use Rattle.laws.proofs.Car.{car_stops, car_moves, car_opens, car_remembers, car_opened, car_trim_has_head}
use Rattle.laws.proofs.Cart.{cart_stops, cart_remembers, cart_counts, cart_trim_has_head}
use Rattle.laws.proofs.Classics.{clock_stops, clock_forgets, clear_forgets, forgotten}
use Rattle.laws.proofs.Kept.{laws, owns}

pub evicts_one : EvictsOne
evicts_one d s full = (laws d s).evicts d (facts d s).shared (owns d s) full

-- What is promised of one policy alone.
module _ (d : Directory) (s : Sound d) where
  shared : Shared d
  shared = (facts d s).shared

  pub car_facts : d.policy ≡ car → CarFacts d
  car_facts named = (car_iff d).0 (own_by (facts d s) named)

  pub cart_facts : d.policy ≡ cart → CartFacts d
  cart_facts named = (cart_iff d).0 (own_by (facts d s) named)

  clock_facts : d.policy ≡ clock → AloneFacts d
  clock_facts named = (alone_iff d).0 (own_by (facts d s) named)

  clear_forgotten : cached d ≡ d.c → ClearFacts d → Forgotten (Classics.evict d)
  clear_forgotten full own = forgotten d (Classics.evict d) shared (clear_forgets d shared own full)

  -- All but CART's evict part move once for each bit that they clear, and once more.
  pub evict_moves_are_bits : ¬ (d.policy ≡ cart) → cached d ≡ d.c
      → ((row_of d).evict d).moves ≡ ((row_of d).evict d).cleared + 1
  evict_moves_are_bits not-cart full =
      by-policy OneMore (λ own other. car_moves d shared ((car_iff d).0 own) full)
      (λ own other. absurd (other refl)) (λ own other. of_clear own)
      (λ own other. (clock_forgets d shared ((alone_iff d).0 own) full).moves_are_bits) (λ own other. of_clear own)
      d.policy (facts d s).known (facts d s).own not-cart
    where
      OneMore : ℕ → Type 0
      OneMore n =
          (policy_of n).own_sound (encode d) ≡ true → ¬ (n ≡ cart)
          → ((policy_of n).evict d).moves ≡ ((policy_of n).evict d).cleared + 1

      of_clear : Classics.clear_sound (encode d) ≡ true → (Classics.evict d).moves ≡ (Classics.evict d).cleared + 1
      of_clear own = (clear_forgets d shared ((clear_iff d).0 own) full).moves_are_bits

pub published_stop_comes_first : PublishedStopComesFirst
published_stop_comes_first = record {
  of_car = λ d s full named. car_stops d (shared d s) (car_facts d s named) full;
  of_cart = λ d s full named. cart_stops d (shared d s) (cart_facts d s named) full;
  of_clock = λ d s full named. clock_stops d (shared d s) (clock_facts d s named) full;
}

pub evicted_is_remembered : EvictedIsRemembered
evicted_is_remembered = record {
  of_car = λ d s full named. car_remembers d (shared d s) (car_facts d s named) full;
  of_cart = λ d s full named. cart_remembers d (shared d s) (cart_facts d s named) full;
}

pub evicted_is_forgotten : EvictedIsForgotten
evicted_is_forgotten = record {
  of_fifo = λ d s full named. clear_forgotten d s full ((clear_iff d).0 (own_by (facts d s) named));
  of_clock = λ d s full named.
      forgotten d (Classics.clock_evict d) (shared d s) (clock_forgets d (shared d s) (clock_facts d s named) full);
  of_lru = λ d s full named. clear_forgotten d s full ((clear_iff d).0 (own_by (facts d s) named));
}

pub trim_has_head : TrimHasHead
trim_has_head = record {
  of_car = λ d s full named.
      let own = car_facts d s named in
      let opens = car_opens d (shared d s) own full in
      car_trim_has_head (Car.evict d).dir (omega arith) (car_opened d (shared d s) own full).t1_b1_fit;
  of_cart = λ d s full named. cart_trim_has_head (Cart.evict d).dir;
}

pub counts_kept : CountsKept
counts_kept d s full named = cart_counts d (shared d s) (cart_facts d s named) full
