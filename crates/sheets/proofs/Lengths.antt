-- How long a sheet is: line by line, and at most 256 bytes.
use mathlib.Core.Path.{◌≡◌, refl}
use mathlib.Core.Bool.{true}
use mathlib.Core.List.{List, [], ◌∷◌, map}
use Prim.Native.Nat.{ℕ, ◌+◌, ◌/◌, ◌^◌, ◌≤◌, ◌<◌}
use Prim.Native.String.{String}
use native.Mathlib.Omega.{arith}
use lib.ListN.{length-append}
use lib.Dec.{eqb}
use Rattle.terms.specs.Choice.{∣◌∣, all_at_most}
use Rattle.terms.specs.Policies.{Named, policies, name_in, policy_name}
use Rattle.terms.proofs.Choice.{either}
use Rattle.terms.proofs.Tests.{reads}
use Rattle.text.specs.Text.{bytes}
use Rattle.sheets.specs.Result.{Outcome, decimal, milliseconds, line_of, result_sheet}
use Rattle.sheets.specs.Demands.{ResultFits}
use Rattle.sheets.proofs.Numbers.{digits_of}

-- The sheet's length, line by line.
pub result_length : (r : Outcome)
    → ∣ result_sheet r ∣ ≡
    ∣ line_of (bytes "policy=") (bytes (policy_name r.policy)) ∣
    + (∣ line_of (bytes "pages=") (decimal r.pages) ∣
    + (∣ line_of (bytes "requests=") (decimal r.requests) ∣
    + (∣ line_of (bytes "hits=") (decimal r.hits) ∣
    + (∣ line_of (bytes "misses=") (decimal r.misses) ∣
    + (∣ line_of (bytes "evictions=") (decimal r.evictions) ∣
    + (∣ line_of (bytes "steps=") (decimal r.steps) ∣
    + ∣ line_of (bytes "wait=") (milliseconds r.wait) ∣))))))
unfolding result_sheet
result_length r = simp length-append

-- A line's length, and those of its values.
line_length : (key value : List ℕ) → ∣ line_of key value ∣ ≡ ∣ key ∣ + ∣ value ∣ + 1
line_length key value = simp length-append (omega arith)

pub decimal_length : (n : ℕ) → n < 2 ^ 32 → ∣ decimal n ∣ ≤ 10
decimal_length n h = (digits_of n (omega arith)).few 9 (omega arith)

pub count_length : (key : List ℕ) (n : ℕ) → n < 2 ^ 32 → ∣ line_of key (decimal n) ∣ ≤ ∣ key ∣ + 11
count_length key n h = omega (arith, line_length key (decimal n), decimal_length n h)

abbrev Short : String → Type 0
Short name = ∣ bytes name ∣ ≤ 5

-- A name of a list is short where all of them are, which is computed.
name_short : (policy : ℕ) (l : List Named) → all_at_most 5 (map (λ p. ∣ bytes p.name ∣) l) ≡ true
    → Short (name_in policy l)
name_short policy [] fit = omega arith
name_short policy (p ∷ l) fit =
    let each = simp reads at fit in either Short (eqb policy p.number) each.0 (name_short policy l each.1)

name_length : (policy : ℕ) → Short (policy_name policy)
name_length policy = name_short policy policies refl

milliseconds_length : (wait : ℕ) → wait < 2 ^ 64 → ∣ milliseconds wait ∣ ≤ 21
unfolding milliseconds
milliseconds_length wait h =
    let whole = wait / 1000 in
    simp length-append (omega (arith, (digits_of whole (omega arith)).few 16 (omega arith)))

pub result_fits : ResultFits
result_fits r h = omega (
  arith,
  result_length r,
  line_length (bytes "policy=") (bytes (policy_name r.policy)),
  name_length r.policy,
  count_length (bytes "pages=") r.pages h.pages_fit,
  count_length (bytes "requests=") r.requests h.requests_fit,
  count_length (bytes "hits=") r.hits h.hits_fit,
  count_length (bytes "misses=") r.misses h.misses_fit,
  count_length (bytes "evictions=") r.evictions h.evictions_fit,
  count_length (bytes "steps=") r.steps h.steps_fit,
  line_length (bytes "wait=") (milliseconds r.wait),
  milliseconds_length r.wait h.wait_fits,
)
