-- The digits before the last are put first, by the same function at a tenth of the number; then the last one.
use Rattle.std.proofs.Common.{[], ◌∷◌, ℕ, ◌+◌, ◌≤◌, ◌<◌, ◌/◌, ◌^◌, ap, arith, length, List}
use Rattle.terms.specs.Choice.{∣◌∣}
use Rattle.sheets.specs.Result.{last_digit, decimal}
use Rattle.sheets.proofs.Numbers.{decimal_one, decimal_more}
use Rattle.result.specs.Put.{PutFits}
use Rattle.result.proofs.Putting.{room_as, room_both}
use Rattle.result.proofs.Placing.{both, put_as}
use Rattle.result.proofs.Place.+put_number.Goals as goal

-- Room for a number of several digits is room for those before the last, and for the last.
parts_room : {w : List ℕ} {at : ℕ} (n : ℕ) → 10 ≤ n → n < 2 ^ 64 → PutFits w at (decimal n)
    → at + (∣ decimal (n / 10) ∣ + 1) ≤ ∣ w ∣
parts_room n several most room = room_both (decimal (n / 10)) (last_digit n ∷ []) (room_as (decimal_more n several most) room)

pub put_byte-requires : goal.put_byte-requires
put_byte-requires t c = omega (arith, ap length (decimal_one c.args.n (omega arith)))

pub returns-then-n-lt10 : goal.returns-then-n-lt10
returns-then-n-lt10 t c =
    put_as (decimal_one c.args.n (omega arith)) (rw c.last_digit.ensures at c.put_byte.ensures)

pub put_number-requires : goal.put_number-requires
put_number-requires t c =
    (omega arith, record { fits = omega (arith, parts_room c.args.n (omega arith) (omega arith) c.requires) })

pub put_byte-requires-2 : goal.put_byte-requires-2
put_byte-requires-2 t c = omega (arith, parts_room c.args.n (omega arith) (omega arith) c.requires)

pub returns : goal.returns
returns t c =
    put_as (decimal_more c.args.n (omega arith) (omega arith))
    (both c.put_number.ensures (rw c.last_digit-2.ensures at c.put_byte-2.ensures))
