-- What a bid sheet means: a bid, or a refusal's number with its line. Every byte sequence means exactly one of them.
-- "The first line that is wrong decides the refusal, and its number from 1 is given with it".
use Rattle.std.specs.Prelude.{List, [], ◌∷◌, ℕ, suc, ◌+◌, ltb, if◌then◌else◌}
use Rattle.terms.specs.Choice.{∣◌∣, same}
use Rattle.terms.specs.Limits.{most_pages, most_sheet_bytes, known_size}
use Rattle.terms.specs.Policies.{Named, car, cart, policies}
use Rattle.terms.specs.Refusals.{policy_not_known, size_not_known, too_many_pages, sheet_too_long}
use Rattle.text.specs.Text.{bytes}
use Rattle.sheets.specs.Number.{Value, means, wrong, whole, miss_cost}
use Rattle.sheets.specs.Lines.{Lines, end, unclosed, line, lines, Reading, good, bad, under}

pub record Bid : Type 0 where
  pub policy : ℕ
  pub c : ℕ
  -- the miss cost in thousandths of a millisecond
  pub cost : ℕ
  pub pages : List ℕ

pub data Meaning : Type 0 where
  bid : Bid → Meaning
  -- the refusal's number, and the line that decides it
  refused : ℕ → ℕ → Meaning

-- THE FIRST THREE LINES

-- "`policy=` (car or cart ..)"; "(`fifo`, `clock`, `lru`)" (request 1 of 02)
pub data PolicyValue : Type 0 where
  named : ℕ → PolicyValue
  blank unknown : PolicyValue

abbrev pub named_in : List Named → List ℕ → PolicyValue
named_in [] s = unknown
named_in (p ∷ l) s = if same s (bytes p.name) then named p.number else named_in l s

abbrev pub policy_value : List ℕ → PolicyValue
policy_value s = if same s (bytes "") then blank else named_in policies s

-- What a blank is differs from one reading of a sheet to another, and is a parameter of it.
abbrev pub policy_meant : Value → PolicyValue → Value
policy_meant blankIs (named policy) = means policy
policy_meant blankIs blank = blankIs
policy_meant blankIs unknown = wrong policy_not_known

unfoldable pub policy_line : Value → Lines → Reading
policy_line blankIs ls = under (bytes "policy=") (λ s. policy_meant blankIs (policy_value s)) ls

-- "9 for others, 2 for a well-formed `pages=` out of range"
abbrev pub in_range : Value → Value
in_range (means c) = if known_size c then means c else wrong size_not_known
in_range (wrong number) = wrong number

unfoldable pub size_line : Lines → Reading
size_line ls = under (bytes "pages=") (λ s. in_range (whole s)) ls

unfoldable pub cost_line : Lines → Reading
cost_line ls = under (bytes "misscost=") miss_cost ls

-- THE PAGE LINES

-- "8, then 5 if it is the 1,001st page line, then the value": n page lines stand before this one.
abbrev pub page_meant : ℕ → List ℕ → Value
page_meant n s = if ltb n most_pages then whole s else wrong too_many_pages

unfoldable pub page_line : ℕ → Lines → Reading
page_line n ls = under (bytes "page=") (page_meant n) ls

pub data Pages : Type 0 where
  listed : List ℕ → Pages
  refused_at : ℕ → ℕ → Pages

-- Three lines and n page lines stand before this one.
abbrev pub number_of_line : ℕ → ℕ
number_of_line n = n + 4

-- A page line's reading, n page lines before it, and what the lines after it come to.
abbrev pub onto : ℕ → Reading → Pages → Pages
onto n (good page rest) (listed pages) = listed (page ∷ pages)
onto n (good page rest) (refused_at number at) = refused_at number at
onto n (bad number) after = refused_at number (number_of_line n)

abbrev pub pages_from : ℕ → Lines → Pages
pages_from n end = listed []
pages_from n unclosed = onto n (page_line n unclosed) (listed [])
pages_from n (line l rest) = onto n (page_line n (line l rest)) (pages_from (suc n) rest)

-- THE SHEET

abbrev pub with_pages : ℕ → ℕ → ℕ → Pages → Meaning
with_pages policy c cost (listed pages) = bid (record { policy = policy; c = c; cost = cost; pages = pages })
with_pages policy c cost (refused_at number at) = refused number at

-- The reading of line n decides, or what follows it does.
abbrev pub after_line : ℕ → Reading → (ℕ → Lines → Meaning) → Meaning
after_line n (good value rest) follows = follows value rest
after_line n (bad number) follows = refused number n

unfoldable pub in_order : Value → Lines → Meaning
in_order blankIs ls =
    after_line 1 (policy_line blankIs ls) (λ policy ls₂.
    after_line 2 (size_line ls₂) (λ c ls₃.
    after_line 3 (cost_line ls₃) (λ cost ls₄.
    with_pages policy c cost (pages_from 0 ls₄))))

-- "A bid sheet, at most 16,000 bytes", "0 for 6 and 7"
unfoldable pub meaning_where : Value → List ℕ → Meaning
meaning_where blankIs s = if ltb most_sheet_bytes ∣ s ∣ then refused sheet_too_long 0 else in_order blankIs (lines s)

-- "from this request an empty `policy=` means cart" (request 2 of 02)
abbrev pub meaning : List ℕ → Meaning
meaning = meaning_where (means cart)

-- "Sheets already filed were scored as CAR": what a sheet meant before that request.
abbrev pub filed_meaning : List ℕ → Meaning
filed_meaning = meaning_where (means car)
