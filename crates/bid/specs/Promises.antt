-- The promises of judge and read: the answer and every lent word afterwards, for every input, refused ones too. Each is
-- fixed by a total function; proofs/Determined shows that two outcomes that are allowed are equal.
use Rattle.std.specs.Prelude.{◌≡◌, List, ℕ, Result, Ok, Err}
use Rattle.terms.specs.Choice.{∣◌∣}
use Rattle.terms.specs.Refusals.{accepted}
use Rattle.terms.specs.RefusedAt.{number_at, line_at}
use Rattle.terms.specs.declared.refusals.RefusedAt.{RefusedAt}
use Rattle.sheets.specs.Number.{means}
use Rattle.sheets.specs.Bid.{Meaning, bid, refused, meaning_where}
use Rattle.sheets.specs.Refusals.{Read, on_read}
use Rattle.bid.specs.declared.Bid.{Bid}

-- The answer as document 01 gives it: "its number with zeros elsewhere (the sheet reader: also the line ..)".
pub record Answer : Type 0 where
  pub number : ℕ
  pub line : ℕ
  pub its_bid : Bid

abbrev pub no_bid : Bid
no_bid = record { policy = 0; c = 0; cost = 0; count = 0 }

-- The bid in the code's answer, zeros where it is refused.
abbrev pub bid_in : Result Bid RefusedAt → Bid
bid_in (Ok b) = b
bid_in (Err e) = no_bid

abbrev pub answer_in : Result Bid RefusedAt → Answer
answer_in r = record { number = number_at r; line = line_at r; its_bid = bid_in r }

-- The answer by the sheet's meaning.
abbrev pub answer_of : Meaning → Answer
answer_of (bid b) = record {
  number = accepted;
  line = 0;
  its_bid = record { policy = b.policy; c = b.c; cost = b.cost; count = ∣ b.pages ∣ };
}
answer_of (refused number line) = record { number = number; line = line; its_bid = no_bid }

-- judge(sheet, blank) -> Result<Bid, RefusedAt>
abbrev pub BidJudged : List ℕ → ℕ → Result Bid RefusedAt → Type 0
BidJudged sheet blank r = answer_in r ≡ answer_of (meaning_where (means blank) sheet)

-- The answer and the words are those that a definition gives.
pub record ReadAs (defined : Read) (r : Result Bid RefusedAt) (pages' : List ℕ) : Type 0 where
  pub number_is : number_at r ≡ defined.number
  pub line_is : line_at r ≡ defined.line
  pub policy_is : (bid_in r).policy ≡ defined.policy
  pub c_is : (bid_in r).c ≡ defined.c
  pub cost_is : (bid_in r).cost ≡ defined.cost
  pub count_is : (bid_in r).count ≡ defined.count
  pub words_are : pages' ≡ defined.pages

-- read(sheet, pages) -> Result<Bid, RefusedAt>
abbrev pub BidRead : List ℕ → List ℕ → Result Bid RefusedAt → List ℕ → Type 0
BidRead sheet pages r pages' = ReadAs (on_read sheet pages) r pages'
