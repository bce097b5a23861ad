-- A number that is no policy's has no name.
use Rattle.std.specs.Prelude.{eqb, if◌then◌else◌}
use Rattle.std.proofs.Common.{◌≡◌, Bool, true, false, ◌||◌, refl, ℕ, List, [], ◌∷◌}
use Rattle.terms.specs.Policies.{Named, policies, has_number, name_in}
use Rattle.text.specs.Text.{bytes}
use Rattle.result.proofs.Placing.{none_put, put_as}
use Rattle.result.proofs.Place.put_name.Goals as goal

no_name : (policy : ℕ) (l : List Named) → has_number policy l ≡ false → bytes (name_in policy l) ≡ []
no_name policy [] unknown = refl
no_name policy (p ∷ l) unknown = behind (eqb policy p.number) (no_name policy l) unknown
  where
    behind : (test : Bool) → (has_number policy l ≡ false → bytes (name_in policy l) ≡ [])
        → test || has_number policy l ≡ false → bytes (if test then p.name else name_in policy l) ≡ []
    behind true rest none = cc
    behind false rest none = rest none

pub returns-in_default : goal.returns-in_default
returns-in_default c = put_as (no_name c.args.policy policies c.in_default.ensures.1) none_put
