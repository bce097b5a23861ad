-- The examples of specs/Examples hold by computation, and of the policies' numbers all that are known.
use mathlib.Core.Path.{◌≡◌, refl}
use mathlib.Core.Bool.{true}
use Prim.Native.Nat.{ℕ, zero, suc, ◌≤◌}
use native.Mathlib.Omega.{arith}
use Rattle.terms.specs.Policies.{known_policy}
use Rattle.terms.specs.Examples.{Edges, PolicyNumbers, KnownFrom1To5, InOrder}
use Rattle.terms.proofs.ByPolicy.{by-policy}

pub edges : Edges
edges = record {
  no_page = refl;
  one_page = refl;
  most-pages = refl;
  one_too_many = refl;
  trace = refl;
  sheet = refl;
  result = refl;
  council's-trace = refl;
  page_number = refl;
}

pub numbered : PolicyNumbers
numbered = record { car_named = refl; cart_named = refl; fifo_named = refl; clock_named = refl; lru_named = refl }

known : (n : ℕ) → 1 ≤ n → n ≤ 5 → known_policy n ≡ true
known zero least most = absurd (omega arith)
known (suc zero) least most = refl
known (suc (suc zero)) least most = refl
known (suc (suc (suc zero))) least most = refl
known (suc (suc (suc (suc zero)))) least most = refl
known (suc (suc (suc (suc (suc zero))))) least most = refl
known (suc (suc (suc (suc (suc (suc n)))))) least most = absurd (omega arith)

pub known_from_1_to_5 : KnownFrom1To5
known_from_1_to_5 n = (
  by-policy (λ n. (1 ≤ n) × (n ≤ 5)) (omega arith) (omega arith) (omega arith) (omega arith) (omega arith) n,
  λ range. known n range.0 range.1,
)

pub in-order : InOrder
in-order = refl
