-- A sheet put with the name behind its key: the key, the name and the rest, one after another.
use mathlib.Core.Path.{◌≡◌, sym, ap}
use mathlib.Core.Bool.{true}
use mathlib.Core.List.{List, ◌++◌}
use Prim.Native.Nat.{ℕ, ◌+◌, ◌-◌, ◌≤◌}
use native.Mathlib.Omega.{arith}
use lib.ListN.{take, drop}
use Rattle.terms.specs.Choice.{∣◌∣}
use Rattle.text.specs.Text.{bytes}
use Rattle.text.proofs.Text.{starts_fits}
use Rattle.sheets.specs.Copy.{blank_policy, behind_key, with_car}
use Rattle.sheets.proofs.Places.{bytes_from}
use Rattle.result.specs.Put.{Put}
use Rattle.result.proofs.Putting.{both, put_as}
use Rattle.copying.specs.Promises.{RoomForCar}

pub room_for_car : {s out : List ℕ} → blank_policy s ≡ true → ∣ s ∣ + 3 ≤ 16000 → 16000 ≤ ∣ out ∣ → RoomForCar s out
room_for_car {s} blank short room =
    record { has_key = starts_fits (bytes "policy=\n") s blank; fits = omega arith }

-- What stands behind a place, as the code takes it.
abbrev from : ℕ → List ℕ → List ℕ
from i s = take (∣ s ∣ - i) (drop i s)

pub car_put : (s : List ℕ) {out out₁ out₂ out₃ : List ℕ} {n₁ n₂ n₃ : ℕ} → Put out 0 (take behind_key s) out₁ n₁
    → Put out₁ n₁ (bytes "car") out₂ n₂ → Put out₂ n₂ (from behind_key s) out₃ n₃ → Put out 0 (with_car s) out₃ n₃
car_put s key name behind =
    put_as
    (ap (λ (t : List ℕ). take behind_key s ++ (bytes "car" ++ t)) (sym (bytes_from s behind_key)))
    (both key (both name behind))
