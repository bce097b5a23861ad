-- Limits, policies and refusal numbers at their edges, each as document 01 and the requests of 02 say it.
use Rattle.std.specs.Prelude.{◌≡◌, true, false, ◌↔◌, List, [], ◌∷◌, ℕ, ◌≤◌}
use Rattle.terms.specs.Limits.{most_pages, most_sheet_bytes, least_result_bytes, known_size, most_trace_bytes, most_page}
use Rattle.terms.specs.Policies.{known_policy, policy_name}
use Rattle.terms.specs.Refusals.{accepted, policy_not_known, size_not_known, wrong_length, not_sound, too_many_pages}
use Rattle.terms.specs.Refusals.{buffer_too_short, sheet_too_long, no_such_line, not_in_form, no_record, page_too_large}

-- "c = 1,024 is taken, 0 and 1,025 refused"; "at most 1,000 pages", "at most 16,000 bytes", "at least 256 lent bytes"
pub record Edges : Type 0 where
  pub no_page : known_size 0 ≡ false
  pub one_page : known_size 1 ≡ true
  pub most-pages : known_size 1024 ≡ true
  pub one_too_many : known_size 1025 ≡ false
  pub trace : most_pages ≡ 1000
  pub sheet : most_sheet_bytes ≡ 16000
  pub result : least_result_bytes ≡ 256
  pub council's-trace : most_trace_bytes ≡ 16000
  pub page_number : most_page ≡ 4294967295

-- "1 CAR, 2 CART"; "FIFO, CLOCK and LRU as policies 3, 4 and 5 (`fifo`, `clock`, `lru`)"
pub record PolicyNumbers : Type 0 where
  pub car_named : policy_name 1 ≡ "car"
  pub cart_named : policy_name 2 ≡ "cart"
  pub fifo_named : policy_name 3 ≡ "fifo"
  pub clock_named : policy_name 4 ≡ "clock"
  pub lru_named : policy_name 5 ≡ "lru"

-- "1 now means a policy outside 1 to 5"
abbrev pub KnownFrom1To5 : Type 0
KnownFrom1To5 = (n : ℕ) → (known_policy n ≡ true) ↔ ((1 ≤ n) × (n ≤ 5))

-- The table of refusals, in its order.
abbrev pub table : List ℕ
table =
    accepted ∷ policy_not_known ∷ size_not_known ∷ wrong_length ∷ not_sound ∷ too_many_pages
    ∷ buffer_too_short ∷ sheet_too_long ∷ no_such_line ∷ not_in_form ∷ no_record ∷ page_too_large ∷ []

abbrev pub InOrder : Type 0
InOrder = table ≡ 0 ∷ 1 ∷ 2 ∷ 3 ∷ 4 ∷ 5 ∷ 6 ∷ 7 ∷ 8 ∷ 9 ∷ 10 ∷ 11 ∷ []
