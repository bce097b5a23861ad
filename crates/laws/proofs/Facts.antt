-- What soundness says of a directory's value, in numbers that omega reads; pages that differ count at most once.
-- Then what the evict part, trim and a whole request must leave of it, whichever policy it names.
use mathlib.Core.Path.{◌≡◌, subst}
use mathlib.Core.Bool.{true}
use Prim.Native.Nat.{ℕ, ◌+◌, ◌*◌, ◌≤◌, ◌<◌}
use native.Mathlib.Omega.{arith}
use Rattle.terms.specs.Choice.{∣◌∣}
use Rattle.terms.specs.Policies.{known_policy}
use Rattle.figures.specs.Entry.{Entry, bits, short, long, total}
use Rattle.figures.specs.Directory.{Directory, cached, remembered, in_cache}
use Rattle.figures.specs.Words.{encode}
use Rattle.figures.specs.Policy.{policy_of}
use Rattle.figures.specs.Sound.{Bounds}
use Rattle.laws.proofs.Lists.{is, one, length_counts}

abbrev pub in_history : (Entry → ℕ) → Directory → ℕ
in_history count d = total count d.b1 + total count d.b2

pub cached_counts : (d : Directory) → cached d ≡ in_cache one d
cached_counts d = omega (arith, length_counts d.t1, length_counts d.t2)

pub remembered_counts : (d : Directory) → remembered d ≡ in_history one d
remembered_counts d = omega (arith, length_counts d.b1, length_counts d.b2)

pub record CarFacts (d : Directory) : Type 0 where
  pub q_zero : d.q ≡ 0
  pub none_long : in_cache long d + in_history long d ≡ 0
  pub t1_b1_fit : ∣ d.t1 ∣ + ∣ d.b1 ∣ ≤ d.c

pub record CartFacts (d : Directory) : Type 0 where
  pub q_fits : d.q ≤ 2 * d.c
  pub t2_b2_long : total short d.t2 + total short d.b2 ≡ 0
  pub b1_short : total long d.b1 ≡ 0

-- "All use T1 alone; p, q and the other lists are empty or zero, filter bits clear."
pub record AloneFacts (d : Directory) : Type 0 where
  pub p_zero : d.p ≡ 0
  pub q_zero : d.q ≡ 0
  pub others_empty : ∣ d.t2 ∣ + remembered d ≡ 0
  pub none_long : total long d.t1 ≡ 0

-- "FIFO's and LRU's bits stay 0."
pub record ClearFacts (d : Directory) : Type 0 where
  pub alone : AloneFacts d
  pub bits_clear : total bits d.t1 ≡ 0

-- What all policies share.
pub record Shared (d : Directory) : Type 0 where
  pub bounds : Bounds d.c d.p
  pub cache_fits : cached d ≤ d.c
  pub history_fits : remembered d ≤ d.c
  pub room_no_history : cached d < d.c → remembered d ≡ 0
  pub pages_differ : (x : ℕ) → in_cache (is x) d + in_history (is x) d ≤ 1
  pub history_clear : in_history bits d ≡ 0

pub record Facts (d : Directory) : Type 0 where
  pub known : known_policy d.policy ≡ true
  pub shared : Shared d
  pub own : (policy_of d.policy).own_sound (encode d) ≡ true

-- Its own test, by the policy that it names.
pub own_by : {d : Directory} {n : ℕ} → Facts d → d.policy ≡ n → (policy_of n).own_sound (encode d) ≡ true
own_by {d} f named = subst (λ (n : ℕ). (policy_of n).own_sound (encode d) ≡ true) named f.own

-- What the evict part does, whichever policy: one page less is cached, at most one more remembered, and no page more
-- listed.
pub record Opened (d d' : Directory) : Type 0 where
  pub same_policy : d'.policy ≡ d.policy
  pub same_c : d'.c ≡ d.c
  pub same_p : d'.p ≡ d.p
  pub one_less : cached d' + 1 ≡ cached d
  pub one_more : remembered d' ≤ remembered d + 1
  pub none_listed : (x : ℕ) → in_cache (is x) d' + in_history (is x) d' ≤ in_cache (is x) d + in_history (is x) d
  pub none_enters : (x : ℕ) → in_cache (is x) d' ≤ in_cache (is x) d
  pub history_clear : in_history bits d' ≡ 0

-- What trim does, whichever policy: the histories fit again, and nothing else changes.
pub record Trimmed (d d' : Directory) : Type 0 where
  pub same_policy : d'.policy ≡ d.policy
  pub same_c : d'.c ≡ d.c
  pub same_p : d'.p ≡ d.p
  pub same_t1 : d'.t1 ≡ d.t1
  pub same_t2 : d'.t2 ≡ d.t2
  pub fewer_b1 : (count : Entry → ℕ) → total count d'.b1 ≤ total count d.b1
  pub fewer_b2 : (count : Entry → ℕ) → total count d'.b2 ≤ total count d.b2
  pub history_fits : remembered d' ≤ d.c

module _ {d d' : Directory} (t : Trimmed d d') where
  pub same_cache : (count : Entry → ℕ) → in_cache count d' ≡ in_cache count d
  same_cache count = rw (t.same_t1, t.same_t2)

  pub trimmed_cached : cached d' ≡ cached d
  trimmed_cached = rw (t.same_t1, t.same_t2)

  pub fewer_remembered : (count : Entry → ℕ) → in_history count d' ≤ in_history count d
  fewer_remembered count = omega (arith, t.fewer_b1 count, t.fewer_b2 count)

-- What a request must leave of a directory: the rules of all policies and the policy's own, with page x cached.
pub record Left (Own : Directory → Type 0) (x : ℕ) (d d' : Directory) : Type 0 where
  pub shared : Shared d'
  pub own : Own d'
  pub is_cached : 1 ≤ in_cache (is x) d'
  pub same_policy : d'.policy ≡ d.policy
  pub same_c : d'.c ≡ d.c
