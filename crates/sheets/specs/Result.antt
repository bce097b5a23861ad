-- What a result sheet says, and the two lines of a refused sheet.
-- The writer takes any numbers; only the policy has to be known.
use Rattle.std.specs.Prelude.{List, [], ◌∷◌, ◌++◌, ℕ, zero, suc, ◌+◌, ◌/◌, ◌%◌, ltb, if◌then◌else◌}
use Rattle.terms.specs.Policies.{policy_name}
use Rattle.text.specs.Text.{bytes}
use Rattle.text.specs.Digits.{zero_digit}
use Rattle.sheets.specs.Number.{comma}
use Rattle.sheets.specs.Lines.{line_feed}

-- The last digit of n, as a byte.
abbrev pub last_digit : ℕ → ℕ
last_digit n = zero_digit + n % 10

-- A number in digits, no leading zero except 0 itself, with room for k digits.
abbrev pub in_digits : ℕ → ℕ → List ℕ
in_digits zero n = []
in_digits (suc k) n = if ltb n 10 then last_digit n ∷ [] else in_digits k (n / 10) ++ (last_digit n ∷ [])

-- No 64-bit number has more than 20 digits.
unfoldable pub decimal : ℕ → List ℕ
decimal n = in_digits 20 n

-- "a whole part without leading zeros, a comma, three digits"
abbrev pub three_digits : ℕ → List ℕ
three_digits n = last_digit (n / 100) ∷ last_digit (n / 10) ∷ last_digit n ∷ []

unfoldable pub milliseconds : ℕ → List ℕ
milliseconds thousandths = decimal (thousandths / 1000) ++ (comma ∷ three_digits (thousandths % 1000))

pub record Outcome : Type 0 where
  pub policy : ℕ
  pub pages : ℕ
  pub requests : ℕ
  pub hits : ℕ
  pub misses : ℕ
  pub evictions : ℕ
  pub steps : ℕ
  -- in thousandths of a millisecond
  pub wait : ℕ

abbrev pub line_of : List ℕ → List ℕ → List ℕ
line_of key value = key ++ (value ++ (line_feed ∷ []))

unfoldable pub result_sheet : Outcome → List ℕ
result_sheet r =
    line_of (bytes "policy=") (bytes (policy_name r.policy))
    ++ (line_of (bytes "pages=") (decimal r.pages)
    ++ (line_of (bytes "requests=") (decimal r.requests)
    ++ (line_of (bytes "hits=") (decimal r.hits)
    ++ (line_of (bytes "misses=") (decimal r.misses)
    ++ (line_of (bytes "evictions=") (decimal r.evictions)
    ++ (line_of (bytes "steps=") (decimal r.steps)
    ++ line_of (bytes "wait=") (milliseconds r.wait)))))))

-- "A refused sheet prints `refused=N` and `line=N`, two lines."
unfoldable pub refused_sheet : ℕ → ℕ → List ℕ
refused_sheet number line = line_of (bytes "refused=") (decimal number) ++ line_of (bytes "line=") (decimal line)
