-- What each answer within the reader means, by document 01's numbers and values.
-- A place in the sheet stands for the lines from there on.
use Rattle.std.specs.Prelude.{◌≡◌, List, ℕ, ◌≤◌, ◌<◌, drop, Result, Ok, Err, IfOk, MatchResult}
use Rattle.std.specs.Borrow.{Bor}
use Rattle.terms.specs.Choice.{∣◌∣}
use Rattle.terms.specs.Refusals.{number_of}
use Rattle.terms.specs.declared.refusals.Refusal.{Refusal}
use Rattle.terms.specs.declared.refusals.RefusedAt.{RefusedAt}
use Rattle.sheets.specs.Number.{Value, means, wrong}
use Rattle.sheets.specs.Lines.{Reading, lines, good, bad, before, under}
use Rattle.sheets.specs.Bid.{Meaning, bid, refused, Pages, listed, refused_at, pages_from}
use Rattle.sheets.specs.Refusals.{over}
use Rattle.bid.specs.declared.Bid.{Bid}

-- A LINE UNDER ITS KEY

-- What the line comes to, whatever its value means.
abbrev pub value_under : List ℕ → (List ℕ → Value) → Result (Bor (List ℕ) × ℕ) Refusal → Reading
value_under s meant (Ok (value, next)) = before (meant value.now) (lines (drop next s))
value_under s meant (Err refusal) = bad (number_of refusal)

-- The next line starts behind this one.
abbrev pub Ahead : {A : Type 0} → List ℕ → ℕ → Result (A × ℕ) Refusal → Type 0
Ahead s at r = IfOk r (λ p. (at < p.1) × (p.1 ≤ ∣ s ∣))

pub record KeyedAt (s : List ℕ) (at : ℕ) (key : List ℕ) (r : Result (Bor (List ℕ) × ℕ) Refusal) : Type 0 where
  pub under_key : (meant : List ℕ → Value) → under key meant (lines (drop at s)) ≡ value_under s meant r
  pub ahead : Ahead s at r

-- What a value means, or the refusal that it is wrong by.
abbrev pub valued : Result ℕ Refusal → Value
valued (Ok n) = means n
valued (Err refusal) = wrong (number_of refusal)

-- A LINE'S ANSWER

abbrev pub told : List ℕ → Result (ℕ × ℕ) Refusal → Reading
told s (Ok (value, next)) = good value (lines (drop next s))
told s (Err refusal) = bad (number_of refusal)

pub record ReadsLine (s : List ℕ) (at : ℕ) (reading : Reading) (r : Result (ℕ × ℕ) Refusal) : Type 0 where
  pub tells : told s r ≡ reading
  pub ahead : Ahead s at r

-- With the line's number beside a refusal.
abbrev pub at_line : ℕ → Result (ℕ × ℕ) Refusal → Result (ℕ × ℕ) RefusedAt
at_line line (Ok read) = Ok read
at_line line (Err refusal) = Err (record { refusal = refusal; line = line })

-- THE PAGE LINES

pub record PagesCounted (ps : Pages) (count : ℕ) : Type 0 where
  pub pages : List ℕ
  pub is_listed : ps ≡ listed pages
  pub as_many : count ≡ ∣ pages ∣

abbrev pub CountedAs : Pages → Result ℕ RefusedAt → Type 0
CountedAs ps r = MatchResult r (PagesCounted ps) (λ e. ps ≡ refused_at (number_of e.refusal) e.line)

-- Good page lines, from a place on, written into a buffer.
abbrev pub PagesFilled : List ℕ → ℕ → List ℕ → List ℕ → Type 0
PagesFilled s start w w' = (pages : List ℕ) → pages_from 0 (lines (drop start s)) ≡ listed pages → w' ≡ over pages w

-- THE SHEET BEFORE ITS PAGES ARE WRITTEN

-- The meaning is the bid with some pages, and the page lines that list them start at the place.
pub record JudgedGood (s : List ℕ) (m : Meaning) (b : Bid) (start : ℕ) : Type 0 where
  pub pages : List ℕ
  pub meaning_is : m ≡ bid (record { policy = b.policy; c = b.c; cost = b.cost; pages = pages })
  pub count_is : b.count ≡ ∣ pages ∣
  pub pages_there : pages_from 0 (lines (drop start s)) ≡ listed pages

abbrev pub JudgedAs : List ℕ → Meaning → Result (Bid × ℕ) RefusedAt → Type 0
JudgedAs s m r = MatchResult r (λ p. JudgedGood s m p.0 p.1) (λ e. m ≡ refused (number_of e.refusal) e.line)
