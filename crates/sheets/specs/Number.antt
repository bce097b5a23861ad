-- The form of a number on a sheet, once: whole numbers, and the miss cost with its comma.
-- Whatever reads a number on a sheet cites `digits_form`; what digits are, and are worth, is in the crate text.
use Rattle.std.specs.Prelude.{Bool, true, false, not, List, [], ◌∷◌, ℕ, ◌+◌, ◌*◌, get_or, take, drop, leb, eqb, if◌then◌else◌}
use Rattle.terms.specs.Choice.{∣◌∣, every}
use Rattle.terms.specs.Refusals.{not_in_form}
use Rattle.text.specs.Bytes.{index_of}
use Rattle.text.specs.Digits.{zero_digit, all_digits, value}

-- What the value of a line comes to: a number, or the number of a refusal.
pub data Value : Type 0 where
  means : ℕ → Value
  wrong : ℕ → Value

-- The byte ","
abbrev pub comma : ℕ
comma = 44

-- "no leading zero except 0 itself"
abbrev pub no_leading_zero : List ℕ → Bool
no_leading_zero s = if eqb ∣ s ∣ 1 then true else not (eqb (get_or s 0 0) zero_digit)

-- "1 to 10 digits, no leading zero except 0 itself", and "1 to 4 digits under the same leading-zero rule"
unfoldable pub digits_form : ℕ → List ℕ → Bool
digits_form most s = every (leb 1 ∣ s ∣ ∷ leb ∣ s ∣ most ∷ all_digits s ∷ no_leading_zero s ∷ [])

-- "Whole numbers are 1 to 10 digits, no leading zero except 0 itself, at most 4,294,967,295."
abbrev pub whole_form : List ℕ → Bool
whole_form s = if digits_form 10 s then leb (value s) 4294967295 else false

unfoldable pub whole : List ℕ → Value
whole s = if whole_form s then means (value s) else wrong not_in_form

-- "The miss cost is milliseconds: 1 to 4 digits under the same leading-zero rule, a comma, exactly three digits."
abbrev pub before_comma : List ℕ → List ℕ
before_comma s = take (index_of comma s) s

abbrev pub after_comma : List ℕ → List ℕ
after_comma s = drop (index_of comma s + 1) s

abbrev pub cost_form : List ℕ → Bool
cost_form s = every (digits_form 4 (before_comma s) ∷ eqb ∣ after_comma s ∣ 3 ∷ all_digits (after_comma s) ∷ [])

unfoldable pub miss_cost : List ℕ → Value
miss_cost s = if cost_form s then means (1000 * value (before_comma s) + value (after_comma s)) else wrong not_in_form
