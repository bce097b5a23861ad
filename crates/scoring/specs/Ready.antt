-- What the functions under score and ledger need of what they are lent, and what they make of it.
-- They are internal: score and ledger ask for nothing.
use Rattle.std.specs.Prelude.{◌≡◌, true, List, ℕ, ◌+◌, ◌*◌, ◌≤◌, ◌<◌, get_or, take, drop, Ok, Err}
use Rattle.terms.specs.Choice.{∣◌∣}
use Rattle.terms.specs.Policies.{known_policy}
use Rattle.terms.specs.declared.refusals.Refusal.{Refusal}
use Rattle.figures.specs.Directory.{fresh}
use Rattle.figures.specs.Run.{run}
use Rattle.figures.specs.Words.{encode}
use Rattle.tally.specs.Note.{defined}
use Rattle.tally.specs.declared.Tally.{Tally}
use Rattle.sheets.specs.Bid as Sheet
use Rattle.sheets.specs.Bid.{bid, meaning}
use Rattle.sheets.specs.Refusals.{over}
use Rattle.bid.specs.declared.Bid.{Bid}
use Rattle.result.specs.Put.{Put}
use Rattle.scoring.specs.declared.Scored.{Scored}
use Rattle.scoring.specs.Scored.{replayed, printed, ledger_line}
use Rattle.scoring.specs.Refusals.{answered}
use Rattle.scoring.specs.Promises.{requests_of, ScoredAs}

-- The answer where the lent memory is not enough.
abbrev pub too_little : Scored
too_little = record { served = Err (record { refusal = Refusal.BufferTooShort; line = 0 }); count = 0 }

-- A trace that a fresh directory of this policy and size can be lent for, and its answers.
pub record Fitting (policy c : ℕ) (w trace answers : List ℕ) : Type 0 where
  pub policy-known : known_policy policy ≡ true
  pub size-known : (1 ≤ c) × (c ≤ 1024)
  pub exact : ∣ w ∣ ≡ 8 + 4 * c
  pub few : ∣ trace ∣ ≤ 1000
  pub room : 4 * ∣ trace ∣ ≤ ∣ answers ∣

pub record RanFresh (policy c : ℕ) (trace answers : List ℕ) (r : Tally) (w' answers' : List ℕ) : Type 0 where
  pub tally_is : defined r ≡ (run trace (fresh policy c)).tally
  pub words_are : w' ≡ encode (run trace (fresh policy c)).dir
  pub answers_are : answers' ≡ over (run trace (fresh policy c)).answers answers

-- Memory enough for any bid, as `enough` of Refusals tests it.
pub record Lent (least : ℕ) (pages dir answers out : List ℕ) : Type 0 where
  pub pages_fit : 1000 ≤ ∣ pages ∣
  pub dir_fits : 8 + 4 * 1024 ≤ ∣ dir ∣
  pub answers_fit : 4 * 1000 ≤ ∣ answers ∣
  pub out_fits : least ≤ ∣ out ∣

-- An accepted bid, with its pages in front of the page buffer.
pub record GoodBid (b : Bid) (pages dir answers out : List ℕ) : Type 0 where
  pub lent : Lent 256 pages dir answers out
  pub policy-known : known_policy b.policy ≡ true
  pub size-known : (1 ≤ b.c) × (b.c ≤ 1024)
  pub few : b.count ≤ 1000

-- What the answer's bid means, its pages read from the buffer.
abbrev pub meant : Bid → List ℕ → Sheet.Bid
meant b pages = record { policy = b.policy; c = b.c; cost = b.cost; pages = take b.count pages }

-- A text over lent bytes, and its count.
pub record TextOver (text out : List ℕ) (count : ℕ) (out' : List ℕ) : Type 0 where
  pub count_is : count ≡ ∣ text ∣
  pub out_is : out' ≡ over text out

pub record BidScored (b : Bid) (pages dir answers out : List ℕ) (r : Scored)
    (dir' answers' out' : List ℕ) : Type 0 where
  pub served_is : r.served ≡ Ok b.count
  pub dir_is : dir' ≡ over (encode (replayed (meant b pages)).dir) dir
  pub answers_are : answers' ≡ over (replayed (meant b pages)).answers answers
  pub prints : TextOver (printed (bid (meant b pages))) out r.count out'

-- The answer where the lent memory is enough, over what is printed; and that the requests are few.
pub record AnsweredWith (text sheet pages dir answers out : List ℕ) (r : Scored)
    (pages' dir' answers' out' : List ℕ) : Type 0 where
  pub answer_is : ScoredAs (answered (meaning sheet) text pages dir answers out) r pages' dir' answers' out'
  pub few : requests_of r.served ≤ 1000

-- Request i, counted from 0, with its page and its answer there, and room for its line from a place on.
pub record Request (i at : ℕ) (pages answers out : List ℕ) : Type 0 where
  pub few : i < 1000
  pub page_there : i < ∣ pages ∣
  pub answer_there : 4 * i + 4 ≤ ∣ answers ∣
  pub out_fits : at + 256 ≤ ∣ out ∣

-- Its line put, of at most 256 bytes.
pub record LinePut (i at : ℕ) (pages answers out : List ℕ) (next : ℕ) (out' : List ℕ) : Type 0 where
  pub line_put : Put out at (ledger_line (i + 1) (get_or pages i 0) (drop (4 * i) answers)) out' next
  pub not_far : next ≤ at + 256

-- Requests with their answers, and room for a line of each behind what is printed of the sheet.
pub record Requests (at : ℕ) (pages answers out : List ℕ) : Type 0 where
  pub few : ∣ pages ∣ ≤ 1000
  pub answers_there : 4 * ∣ pages ∣ ≤ ∣ answers ∣
  pub begins : at ≤ 256
  pub out_fits : 256 * 1001 ≤ ∣ out ∣
