-- Every promise about the definitions, each beside the sentence that asks for it; behind it, in brackets, the file of
-- proofs/ that proves it.
use Rattle.std.specs.Prelude.{◌≡◌, true, false, List, ℕ, ◌+◌, ◌^◌, ◌/◌, ◌%◌, ◌≤◌, ◌<◌}
use Rattle.terms.specs.Choice.{∣◌∣, all_at_most}
use Rattle.terms.specs.Policies.{car, cart, known_policy}
use Rattle.text.specs.Digits.{all_digits, value}
use Rattle.sheets.specs.Number.{means, no_leading_zero, digits_form, whole, before_comma, after_comma, miss_cost}
use Rattle.sheets.specs.Bid.{Bid, Meaning, bid, refused, meaning_where, meaning, filed_meaning}
use Rattle.sheets.specs.Result.{Outcome, decimal, milliseconds, result_sheet}
use Rattle.sheets.specs.Copy.{blank_policy, with_car, copy, not_copied, copy_of}

-- "every number that the writer writes is read back by the number's definition as that number"

-- Every 32-bit number. [Numbers]
abbrev pub WholeReadBack : Type 0
WholeReadBack = (n : ℕ) → n < 2 ^ 32 → whole (decimal n) ≡ means n

-- Every 64-bit wait, by its two parts: "a whole part without leading zeros, a comma, three digits". No such wait has
-- more than 17 digits before its comma. [Numbers]
pub record WaitReadBack (wait : ℕ) : Type 0 where
  pub whole_part : digits_form 17 (before_comma (milliseconds wait)) ≡ true
  pub three_after : ∣ after_comma (milliseconds wait) ∣ ≡ 3
  pub digits_after : all_digits (after_comma (milliseconds wait)) ≡ true
  pub milliseconds_back : value (before_comma (milliseconds wait)) ≡ wait / 1000
  pub thousandths_back : value (after_comma (milliseconds wait)) ≡ wait % 1000

abbrev pub WaitsReadBack : Type 0
WaitsReadBack = (wait : ℕ) → wait < 2 ^ 64 → WaitReadBack wait

-- A wait that is small enough to be a miss cost is read back as one. [Numbers]
abbrev pub CostReadBack : Type 0
CostReadBack = (cost : ℕ) → cost < 10000000 → miss_cost (milliseconds cost) ≡ means cost

-- What is written has no zero in front: every 64-bit number. [Numbers]
abbrev pub NoLeadingZeros : Type 0
NoLeadingZeros = (n : ℕ) → n < 2 ^ 64 → no_leading_zero (decimal n) ≡ true

-- "The result sheet is written into at least 256 lent bytes": it fits, whatever the numbers. [Lengths]
pub record Fits (r : Outcome) : Type 0 where
  pub pages_fit : r.pages < 2 ^ 32
  pub requests_fit : r.requests < 2 ^ 32
  pub hits_fit : r.hits < 2 ^ 32
  pub misses_fit : r.misses < 2 ^ 32
  pub evictions_fit : r.evictions < 2 ^ 32
  pub steps_fit : r.steps < 2 ^ 32
  pub wait_fits : r.wait < 2 ^ 64

abbrev pub ResultFits : Type 0
ResultFits = (r : Outcome) → Fits r → ∣ result_sheet r ∣ ≤ 256

-- What an accepted bid holds: policy, c, cost, the count of pages and every page in their ranges; so whichever policy
-- a blank means. [Bids]
pub record InRange (b : Bid) : Type 0 where
  pub policy-known : known_policy b.policy ≡ true
  pub size-known : (1 ≤ b.c) × (b.c ≤ 1024)
  pub cost_at_most : b.cost ≤ 9999999
  pub pages_at_most : ∣ b.pages ∣ ≤ 1000
  pub each_page_at_most : all_at_most 4294967295 b.pages ≡ true

abbrev pub BidsInRange : Type 0
BidsInRange = (policy : ℕ) → known_policy policy ≡ true
    → (s : List ℕ) (b : Bid) → meaning_where (means policy) s ≡ bid b → InRange b

-- "An accepted call gives number 0": no refusal does. [Bids]
abbrev pub RefusalsHaveNumbers : Type 0
RefusalsHaveNumbers = (policy : ℕ) → known_policy policy ≡ true
    → (s : List ℕ) (number line : ℕ) → meaning_where (means policy) s ≡ refused number line → 1 ≤ number

-- REQUEST 2 OF 02

-- "And a sheet with a named policy means what it meant": every sheet does whose policy is not blank. [Copies]
abbrev pub NamedMeanTheSame : Type 0
NamedMeanTheSame = (s : List ℕ) → blank_policy s ≡ false → meaning s ≡ filed_meaning s

-- The same bid under another policy; a refusal stays.
abbrev pub under_policy : ℕ → Meaning → Meaning
under_policy policy (bid b) = bid (record { policy = policy; c = b.c; cost = b.cost; pages = b.pages })
under_policy policy (refused number line) = refused number line

-- A blank one meant car and now means cart, and nothing else of it changes. [Copies]
pub record BlankTurned (s : List ℕ) : Type 0 where
  pub was_car : filed_meaning s ≡ under_policy car (filed_meaning s)
  pub is_cart : meaning s ≡ under_policy cart (filed_meaning s)

abbrev pub BlanksTurn : Type 0
BlanksTurn = (s : List ℕ) → blank_policy s ≡ true → BlankTurned s

-- "the copying program refuses as the sheet reader does": what is refused now was refused so when it was filed, and
-- the other way round; and its copy is refused so. [Copies]
pub record RefusedAlike (s : List ℕ) (number line : ℕ) : Type 0 where
  pub as_filed : meaning s ≡ refused number line → filed_meaning s ≡ refused number line
  pub as_now : filed_meaning s ≡ refused number line → meaning s ≡ refused number line
  pub as_copied : meaning s ≡ refused number line → copy_of s ≡ not_copied number line

abbrev pub RefusalsStay : Type 0
RefusalsStay = (s : List ℕ) (number line : ℕ) → RefusedAlike s number line

-- "then 7, line 0, if the copy would be too long": every other sheet that was good has its copy. [Copies]
pub record HasCopy (s : List ℕ) : Type 0 where
  pub named_copied : blank_policy s ≡ false → copy_of s ≡ copy s
  pub blank_copied : blank_policy s ≡ true → ∣ s ∣ ≤ 15997 → copy_of s ≡ copy (with_car s)
  pub blank_too_long : blank_policy s ≡ true → 15998 ≤ ∣ s ∣ → copy_of s ≡ not_copied 7 0

abbrev pub GoodSheetsCopied : Type 0
GoodSheetsCopied = (s : List ℕ) (b : Bid) → filed_meaning s ≡ bid b → HasCopy s

-- "the copy now means what the sheet meant before this request" [Copies]
abbrev pub CopiesMeanTheSame : Type 0
CopiesMeanTheSame = (s t : List ℕ) → copy_of s ≡ copy t → meaning t ≡ filed_meaning s

-- "a sheet that names its policy comes out unchanged" [Copies]
abbrev pub NamedUnchanged : Type 0
NamedUnchanged = (s t : List ℕ) → blank_policy s ≡ false → copy_of s ≡ copy t → t ≡ s

-- "every other byte kept": three bytes more, the others in their order. [Copies]
pub record ThreeBytesMore (s t : List ℕ) : Type 0 where
  pub others_kept : t ≡ with_car s
  pub longer : ∣ t ∣ ≡ ∣ s ∣ + 3

abbrev pub BlanksWritten : Type 0
BlanksWritten = (s t : List ℕ) → blank_policy s ≡ true → copy_of s ≡ copy t → ThreeBytesMore s t

-- A copy's copy is the copy. [Copies]
abbrev pub CopiedOnce : Type 0
CopiedOnce = (s t : List ℕ) → copy_of s ≡ copy t → copy_of t ≡ copy t

-- "An accepted call gives number 0": no refusal to copy does. [Copies]
abbrev pub NotCopiedHasNumber : Type 0
NotCopiedHasNumber = (s : List ℕ) (number line : ℕ) → copy_of s ≡ not_copied number line → 1 ≤ number
