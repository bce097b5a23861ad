-- What so many looks of CAR's evict part come to, from words w and a hand that has counted k: the repeat ends, or it
-- goes on from the words and the hand that are handed back. Where it ends does not depend on how many were asked for.
use Rattle.std.specs.Prelude.{◌≡◌, List, ℕ, ◌+◌, ◌≤◌}
use Rattle.std.specs.declared.ops.ControlFlow.{ControlFlow}
use Rattle.std.specs.declared.ops.ControlFlow.TheVariants.{Break, Continue}
use Rattle.engine.specs.declared.Hand.{Hand}
use Rattle.engine.specs.declared.Evicted.{Evicted}
use Rattle.engine.specs.Choosing.{Turning, EndsFrom}
use Rattle.entries.specs.Holds.{Holds}

-- The words w' may be looked at, and where the repeat from them ends, there that from w ends.
pub record GoesOn (w : List ℕ) (k : Hand) (w' : List ℕ) (k' : Hand) : Type 0 where
  pub turning : Turning Holds w' k'
  pub rest : {r : Evicted} {w'' : List ℕ} → EndsFrom Holds w' k' r w'' → EndsFrom Holds w k r w''

-- The repeat ends within so many looks, or all of them were made and it goes on.
abbrev pub LooksFrom : ℕ → List ℕ → Hand → ControlFlow Evicted Hand → List ℕ → Type 0
LooksFrom left w k (Break out) w' = EndsFrom Holds w k out w' × (out.hand.moves ≤ k.moves + left)
LooksFrom left w k (Continue k') w' = GoesOn w k w' k' × (k'.moves ≡ k.moves + left)
