-- The copy of a sheet already filed: "writes `car` where the value is blank, every other byte kept" (request 2 of 02).
-- That the copy now means what the sheet meant when it was filed is CopiesMeanTheSame of Demands.
use Rattle.std.specs.Prelude.{Bool, List, ◌++◌, ℕ, take, drop, ltb, if◌then◌else◌}
use Rattle.terms.specs.Choice.{∣◌∣}
use Rattle.terms.specs.Limits.{most_sheet_bytes}
use Rattle.terms.specs.Refusals.{sheet_too_long}
use Rattle.text.specs.Text.{bytes, starts}
use Rattle.sheets.specs.Bid.{Meaning, bid, refused, filed_meaning}
use Rattle.sheets.specs.Result.{refused_sheet}

-- The first line's key, and nothing between it and the line feed.
abbrev pub blank_policy : List ℕ → Bool
blank_policy s = starts (bytes "policy=\n") s

-- The name is written between them.
abbrev pub behind_key : ℕ
behind_key = ∣ bytes "policy=" ∣

abbrev pub with_car : List ℕ → List ℕ
with_car s = take behind_key s ++ (bytes "car" ++ drop behind_key s)

abbrev pub car_where_blank : List ℕ → List ℕ
car_where_blank s = if blank_policy s then with_car s else s

pub data Copy : Type 0 where
  copy : List ℕ → Copy
  -- the refusal's number and line
  not_copied : ℕ → ℕ → Copy

-- "A copy over 16,000 bytes is not written": "then 7, line 0, if the copy would be too long".
abbrev pub too_long : List ℕ → Bool
too_long s = ltb most_sheet_bytes ∣ s ∣

abbrev pub not_too_long : List ℕ → Copy
not_too_long s = if too_long s then not_copied sheet_too_long 0 else copy s

-- "the copying program refuses as the sheet reader does"
abbrev pub copy_if : Meaning → List ℕ → Copy
copy_if (bid b) s = not_too_long s
copy_if (refused number line) s = not_copied number line

unfoldable pub copy_of : List ℕ → Copy
copy_of s = copy_if (filed_meaning s) (car_where_blank s)

-- "a refusal prints the scoring program's two lines"
abbrev pub printed_copy : Copy → List ℕ
printed_copy (copy s) = s
printed_copy (not_copied number line) = refused_sheet number line

unfoldable pub copied : List ℕ → List ℕ
copied s = printed_copy (copy_of s)
