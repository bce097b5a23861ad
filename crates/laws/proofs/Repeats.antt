-- A repeat whose looks lower a number ends by itself, so that its budget never decides, and ends at one hand only.
-- What every look keeps, and what the last one makes of it, is said of each look by itself.
use mathlib.Core.Path.{◌≡◌, refl}
use Prim.Native.Nat.{ℕ, zero, suc, ◌<◌}
use native.Mathlib.Omega.{arith}
use Rattle.figures.specs.Hand.{Hand, Look, again, stop, none, Ends, last, next, Leads, here, back, onward, repeat}

-- From a hand to one that is as good and has less left to do.
pub record Nearer (Good : Hand → Type 0) (left : Hand → ℕ) (a b : Hand) : Type 0 where
  pub good : Good b
  pub less : left b < left a

-- What a look from a comes to: a nearer hand, or a stop, where End holds; and never to a head that is not there.
abbrev pub ComesTo : (Hand → Type 0) → (Hand → Type 0) → (Hand → ℕ) → Hand → Look → Type 0
ComesTo Good End left a (again b) = Nearer Good left a b
ComesTo Good End left a (stop z) = End z
ComesTo Good End left a none = ⊥

-- From a the repeat ends at z, where End holds.
pub record EndsWith (look : Hand → Look) (End : Hand → Type 0) (a z : Hand) : Type 0 where
  pub by_itself : Ends look a z
  pub holds : End z

module _ (look : Hand → Look) (Good End : Hand → Type 0) (left : Hand → ℕ)
    (leads : (a : Hand) → Good a → ComesTo Good End left a (look a)) where
  step : (k : ℕ) → ((a : Hand) → Good a → left a < k → EndsWith look End a (repeat look k a))
      → (a : Hand) → left a < suc k → (l : Look) → look a ≡ l → ComesTo Good End left a l
      → EndsWith look End a (onward l a (repeat look k))
  step k ih a h (again b) is nearer =
      let r = ih b nearer.good (omega arith) in
      record { by_itself = next is r.by_itself; holds = r.holds }
  step k ih a h (stop z) is holds = record { by_itself = last is; holds = holds }
  step k ih a h none is never = absurd never

  pub repeat_ends : (k : ℕ) (a : Hand) → Good a → left a < k → EndsWith look End a (repeat look k a)
  unfolding repeat
  repeat_ends zero a good h = absurd (omega arith)
  repeat_ends (suc k) a good h = step k (repeat_ends k) a h (look a) refl (leads a good)

-- The repeat on its way: a look more, and its end.
pub leads_on : {look : Hand → Look} {a b c : Hand} → Leads look a b → look b ≡ again c → Leads look a c
leads_on here is = back is here
leads_on (back p on) is = back p (leads_on on is)

pub leads_to_end : {look : Hand → Look} {a b z : Hand} → Leads look a b → Ends look b z → Ends look a z
leads_to_end here ends = ends
leads_to_end (back p on) ends = next p (leads_to_end on ends)

-- A look has one outcome, so two ways through the repeat are the same.
pub ends_once : {look : Hand → Look} {a y z : Hand} → Ends look a y → Ends look a z → y ≡ z
ends_once (last p) (last q) = cc
ends_once (last p) (next q s) = cc
ends_once (next p r) (last q) = cc
ends_once (next {b = b} p r) (next {b = c} q s) = let same : c ≡ b = cc in ends_once r (rw same at s)
