-- The whole milliseconds are put, and four bytes behind them: the comma and three digits.
use Rattle.std.proofs.Common.{◌∷◌, ℕ, ◌+◌, ◌/◌, ◌%◌, ◌≤◌, List, arith}
use Rattle.terms.specs.Choice.{∣◌∣}
use Rattle.sheets.specs.Number.{comma}
use Rattle.sheets.specs.Result.{decimal, three_digits, milliseconds}
use Rattle.result.specs.Put.{PutFits}
use Rattle.result.proofs.Putting.{room_both}
use Rattle.result.proofs.Placing.{both}
use Rattle.result.proofs.Place.put_milliseconds.Goals as goal

-- The comma and the three digits are four bytes.
behind_room : (t : ℕ) {w : List ℕ} {at : ℕ} → PutFits w at (milliseconds t) → at + (∣ decimal (t / 1000) ∣ + 4) ≤ ∣ w ∣
unfolding milliseconds
behind_room t room = room_both (decimal (t / 1000)) (comma ∷ three_digits (t % 1000)) room

pub put_number-requires : goal.put_number-requires
put_number-requires c = omega (arith, behind_room)

pub put-requires : goal.put-requires
put-requires c = omega (arith, behind_room)

pub returns : goal.returns
unfolding milliseconds
returns c =
    rw (c.last_digit.ensures, c.last_digit-2.ensures, c.last_digit-3.ensures) at
    (both c.put_number.ensures c.put.ensures)
