-- What a digit is, and what digits are worth, however many they are.
-- Which digits are a number is not said here: a sheet's numbers and a trace's have their own forms.
use Rattle.std.specs.Prelude.{Bool, true, false, List, [], ◌∷◌, ℕ, ◌+◌, ◌-◌, ◌*◌, leb, if◌then◌else◌}

-- The byte "0"
abbrev pub zero_digit : ℕ
zero_digit = 48

abbrev pub is_digit : ℕ → Bool
is_digit b = if leb zero_digit b then leb b (zero_digit + 9) else false

abbrev pub all_digits : List ℕ → Bool
all_digits [] = true
all_digits (b ∷ s) = if is_digit b then all_digits s else false

-- What digits are worth behind a number n that was read before them.
abbrev pub value_after : ℕ → List ℕ → ℕ
value_after n [] = n
value_after n (b ∷ s) = value_after (10 * n + (b - zero_digit)) s

abbrev pub value : List ℕ → ℕ
value s = value_after 0 s
