-- The policies by number and name: what word 0 of a directory and the value of `policy=` say.
-- What a policy does is its row in figures/specs/Policy.
use Rattle.std.specs.Prelude.{◌≡◌, Bool, false, ◌||◌, List, [], ◌∷◌, ℕ, eqb, if◌then◌else◌, Result, MatchResult}
use Prim.Native.String.{String}
use Rattle.terms.specs.declared.policies.Policy.{Policy}
use Rattle.terms.specs.declared.refusals.Refusal.{Refusal}

pub record Named : Type 0 where
  pub number : ℕ
  pub name : String

-- Word 0: "1 CAR, 2 CART"; "FIFO, CLOCK and LRU as policies 3, 4 and 5" (request 1 of 02).
abbrev pub car : ℕ
car = 1

abbrev pub cart : ℕ
cart = 2

abbrev pub fifo : ℕ
fifo = 3

abbrev pub clock : ℕ
clock = 4

abbrev pub lru : ℕ
lru = 5

-- "car or cart"; "(`fifo`, `clock`, `lru`)"
abbrev pub policies : List Named
policies =
    record { number = car; name = "car" }
    ∷ record { number = cart; name = "cart" }
    ∷ record { number = fifo; name = "fifo" }
    ∷ record { number = clock; name = "clock" }
    ∷ record { number = lru; name = "lru" }
    ∷ []

-- Some policy of the list has that number.
abbrev pub has_number : ℕ → List Named → Bool
has_number n [] = false
has_number n (p ∷ l) = eqb n p.number || has_number n l

abbrev pub known_policy : ℕ → Bool
known_policy n = has_number n policies

-- The name of the policy with that number; no known number is without one.
abbrev pub name_in : ℕ → List Named → String
name_in n [] = ""
name_in n (p ∷ l) = if eqb n p.number then p.name else name_in n l

abbrev pub policy_name : ℕ → String
policy_name n = name_in n policies

-- The number of the code's policy.
abbrev pub number_of : Policy → ℕ
number_of Policy.Car = car
number_of Policy.Cart = cart
number_of Policy.Fifo = fifo
number_of Policy.Clock = clock
number_of Policy.Lru = lru

-- The policy with that number, or refusal 1 where it is no policy's.
abbrev pub ReadAsPolicy : ℕ → Result Policy Refusal → Type 0
ReadAsPolicy number r =
    MatchResult r (λ policy. number_of policy ≡ number)
    (λ refusal. (refusal ≡ Refusal.PolicyNotKnown) × (known_policy number ≡ false))
