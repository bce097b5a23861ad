-- The result sheet and its tally by their parts, and the room for each part.
use mathlib.Core.Path.{◌≡◌}
use mathlib.Core.List.{List, ◌++◌, append_assoc}
use Prim.Native.Nat.{ℕ, ◌+◌, ◌≤◌}
use Prim.Native.String.{String}
use native.Mathlib.Omega.{arith}
use lib.ListN.{length-append}
use Rattle.terms.specs.Choice.{∣◌∣}
use Rattle.terms.specs.Policies.{policy_name}
use Rattle.text.specs.Text.{bytes}
use Rattle.sheets.specs.Result.{Outcome, decimal, milliseconds, line_of, result_sheet, refused_sheet}
use Rattle.result.specs.declared.Place.{Place}
use Rattle.result.specs.Put.{PutFits}
use Rattle.result.specs.Place.{Puts}
use Rattle.result.specs.Parts.{tally_lines}
use Rattle.result.proofs.Putting.{room_as}
use Rattle.result.proofs.Placing.{both}

-- A line with a number.
abbrev line : String → ℕ → List ℕ
line key n = line_of (bytes key) (decimal n)

module _ (r : Outcome) where
  abbrev policy : List ℕ
  policy = line_of (bytes "policy=") (bytes (policy_name r.policy))

  abbrev wait : List ℕ
  wait = line_of (bytes "wait=") (milliseconds r.wait)

  pub sheet_parts : result_sheet r ≡ policy ++ (line "pages=" r.pages ++ (tally_lines r ++ wait))
  unfolding tally_lines result_sheet
  sheet_parts = simp append_assoc

  pub sheet_room : {w : List ℕ} {at : ℕ} → PutFits w at (result_sheet r)
      → at + (∣ policy ∣ + (∣ line "pages=" r.pages ∣ + (∣ tally_lines r ∣ + ∣ wait ∣))) ≤ ∣ w ∣
  sheet_room room =
      let parts = simp length-append at (room_as sheet_parts room).fits in simp length-append (omega arith)

  pub tally_room : {w : List ℕ} {at : ℕ} → PutFits w at (tally_lines r)
      → at
      + (∣ line "requests=" r.requests ∣
      + (∣ line "hits=" r.hits ∣
      + (∣ line "misses=" r.misses ∣
      + (∣ line "evictions=" r.evictions ∣
      + ∣ line "steps=" r.steps ∣))))
      ≤ ∣ w ∣
  unfolding tally_lines
  tally_room room = let parts = simp length-append at room.fits in simp length-append (omega arith)

-- A refused sheet is two lines.
pub refused_put : (number n : ℕ) {p q r : Place} → Puts p (line "refused=" number) q → Puts q (line "line=" n) r
    → Puts p (refused_sheet number n) r
unfolding refused_sheet
refused_put number n first second = both first second
