-- A line's fields by the first comma: the field before it and the fields after it, or one field that none follows.
use Rattle.std.specs.Prelude.{if◌then◌else◌}
use mathlib.Core.Path.{◌≡◌, refl, ap}
use mathlib.Core.Bool.{Bool, true, false}
use mathlib.Core.List.{List, [], ◌∷◌}
use Prim.Native.Nat.{ℕ, suc, ◌+◌, ◌<◌}
use native.Mathlib.Omega.{arith}
use lib.ListN.{take, drop}
use lib.Dec.{eqb}
use Rattle.terms.specs.Choice.{∣◌∣}
use Rattle.text.specs.Bytes.{index_after, index_of}
use Rattle.sheets.specs.Number.{comma}
use Rattle.sheets.proofs.Places.{cut_first}
use Rattle.traces.specs.Fields.{field, last, behind, fields}

pub fields_closed : (s : List ℕ) → index_of comma s < ∣ s ∣
    → fields s ≡ field (take (index_of comma s) s) (fields (drop (index_of comma s + 1) s))
fields_closed = cut_first comma field behind fields (λ b s. refl) (λ b l rest. refl)

pub fields_last : (s : List ℕ) → index_of comma s ≡ ∣ s ∣ → fields s ≡ last s
unfolding index_of
fields_last [] none = refl
fields_last (b ∷ s) none = by_first (eqb b comma) none (fields_last s)
  where
    by_first : (t : Bool) → index_after t (index_of comma s) ≡ suc ∣ s ∣ → (index_of comma s ≡ ∣ s ∣ → fields s ≡ last s)
        → (if t then field [] (fields s) else behind b (fields s)) ≡ last (b ∷ s)
    by_first true none later = absurd (omega arith)
    by_first false none later = ap (behind b) (later (omega arith))
