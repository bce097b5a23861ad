-- The sheet by its lines' answers, in order: the first that is wrong decides; after three good ones the page lines do.
-- Then what the answer says of the sheet, and the reader's: its pages over the buffer where it is accepted.
use Rattle.std.specs.Prelude.{Result, Ok, Err}
use mathlib.Core.Path.{◌≡◌, refl, sym, ap, ap₂, ◌∙◌}
use mathlib.Core.Bool.{true}
use mathlib.Core.List.{List}
use Prim.Native.Nat.{ℕ, ◌≤◌, ◌<◌}
use native.Mathlib.Omega.{arith}
use lib.ListN.{drop}
use borrow.Author.Rules.{rules}
use borrow.Author.Tests.{lt-ltb, le-ltb}
use Rattle.terms.specs.Choice.{∣◌∣}
use Rattle.terms.specs.Policies.{cart, known_policy}
use Rattle.terms.specs.Refusals.{number_of}
use Rattle.terms.specs.RefusedAt.{number_at}
use Rattle.terms.proofs.Numbers.{not_accepted}
use Rattle.terms.specs.declared.refusals.Refusal.{Refusal}
use Rattle.terms.specs.declared.refusals.RefusedAt.{RefusedAt}
use Rattle.sheets.specs.Number.{Value, means}
use Rattle.sheets.specs.Lines as Lines
use Rattle.sheets.specs.Lines.{Lines, lines}
use Rattle.sheets.specs.Bid as Sheet
use Rattle.sheets.specs.Bid.{Meaning, bid, refused, policy_line, size_line, cost_line}
use Rattle.sheets.specs.Bid.{pages_from, with_pages, after_line, in_order, meaning_where, meaning}
use Rattle.sheets.specs.Refusals.{answer, on_read}
use Rattle.sheets.proofs.Bids.{refusal_has_number}
use Rattle.bid.specs.Answers.{PagesCounted, PagesFilled, JudgedGood}
use Rattle.bid.specs.Promises.{answer_of, BidJudged, ReadAs}
use Rattle.bid.specs.declared.Bid.{Bid}
use Rattle.bid.proofs.Readings.{LineRead}

-- ONE LINE

module _ {s : List ℕ} {at : ℕ} {reading : Lines.Reading} (n : ℕ) (follows : ℕ → Lines → Meaning) where
  pub line_decides : {e : RefusedAt} → LineRead s at reading n (Err e)
      → after_line n reading follows ≡ refused (number_of e.refusal) e.line
  line_decides {e} h =
      ap (λ x. after_line n x follows) (sym h.reads.tells) ∙ ap (refused (number_of e.refusal)) (sym h.line_is)

  pub line_goes_on : {value next : ℕ} → LineRead s at reading n (Ok (value, next))
      → after_line n reading follows ≡ follows value (lines (drop next s))
  line_goes_on h = ap (λ x. after_line n x follows) (sym h.reads.tells)

-- THE LINES IN ORDER

abbrev pub from_fourth : ℕ → ℕ → ℕ → Lines → Meaning
from_fourth policy c cost ls = with_pages policy c cost (pages_from 0 ls)

abbrev pub from_third : ℕ → ℕ → Lines → Meaning
from_third policy c ls = after_line 3 (cost_line ls) (from_fourth policy c)

abbrev pub from_second : ℕ → Lines → Meaning
from_second policy ls = after_line 2 (size_line ls) (from_third policy)

pub from_first : (blankIs : Value) (s : List ℕ) → ∣ s ∣ ≤ 16000
    → meaning_where blankIs s ≡ after_line 1 (policy_line blankIs (lines s)) from_second
unfolding meaning_where in_order
from_first blankIs s short = rw (le-ltb 16000 ∣ s ∣ short)

-- What the sheet comes to by the lines after the first, after the second and after the third, where those are good.
module _ (blankIs : Value) {s : List ℕ} (short : ∣ s ∣ ≤ 16000) {policy second : ℕ}
    (policy_read : LineRead s 0 (policy_line blankIs (lines s)) 1 (Ok (policy, second))) where
  pub by_second : meaning_where blankIs s ≡ from_second policy (lines (drop second s))
  by_second = from_first blankIs s short ∙ line_goes_on 1 from_second policy_read

  module _ {c third : ℕ} (size_read : LineRead s second (size_line (lines (drop second s))) 2 (Ok (c, third))) where
    pub by_third : meaning_where blankIs s ≡ from_third policy c (lines (drop third s))
    by_third = by_second ∙ line_goes_on 2 (from_third policy) size_read

    pub by_pages : {cost fourth : ℕ} → LineRead s third (cost_line (lines (drop third s))) 3 (Ok (cost, fourth))
        → meaning_where blankIs s ≡ with_pages policy c cost (pages_from 0 (lines (drop fourth s)))
    by_pages cost_read = by_third ∙ line_goes_on 3 (from_fourth policy c) cost_read

pub too-long : (blankIs : Value) (s : List ℕ) → 16000 < ∣ s ∣ → meaning_where blankIs s ≡ refused 7 0
unfolding meaning_where
too-long blankIs s long = rw (lt-ltb 16000 ∣ s ∣ long)

-- THE SHEET JUDGED

pub judged_bid : {s : List ℕ} {m : Meaning} {policy c cost count start : ℕ}
    → m ≡ with_pages policy c cost (pages_from 0 (lines (drop start s)))
    → PagesCounted (pages_from 0 (lines (drop start s))) count
    → JudgedGood s m (record { policy = policy; c = c; cost = cost; count = count }) start
judged_bid {policy = policy} {c} {cost} is counted = record {
  pages = counted.pages;
  meaning_is = is ∙ ap (with_pages policy c cost) counted.is_listed;
  count_is = counted.as_many;
  pages_there = counted.is_listed;
}

-- WHAT THE ANSWER SAYS OF THE SHEET

pub record Accepted (m : Meaning) : Type 0 where
  pub its_bid : Sheet.Bid
  pub means_bid : m ≡ bid its_bid

module _ (blank : ℕ) (known : known_policy blank ≡ true) (s : List ℕ) where
  number_is : (r : Result Bid RefusedAt) {m : Meaning} → BidJudged s blank r → meaning_where (means blank) s ≡ m
      → number_at r ≡ (answer_of m).number
  number_is r judged is = ap (λ a. a.number) judged ∙ ap (λ m. (answer_of m).number) is

  pub sheet_accepted : (b : Bid) → BidJudged s blank (Ok b) → Accepted (meaning_where (means blank) s)
  sheet_accepted b judged = go (meaning_where (means blank) s) refl
    where
      go : (m : Meaning) → meaning_where (means blank) s ≡ m → Accepted m
      go (bid b) is = record { its_bid = b; means_bid = refl }
      go (refused number line) is =
          absurd (omega (arith, number_is (Ok b) judged is, refusal_has_number blank known s number line is))

  pub sheet_refused : (e : RefusedAt) → BidJudged s blank (Err e)
      → meaning_where (means blank) s ≡ refused (number_of e.refusal) e.line
  sheet_refused e judged = go (meaning_where (means blank) s) refl
    where
      go : (m : Meaning) → meaning_where (means blank) s ≡ m → m ≡ refused (number_of e.refusal) e.line
      go (bid b) is = absurd (not_accepted e.refusal (number_is (Err e) judged is))
      go (refused number line) is =
          let told = judged ∙ ap answer_of is in
          ap₂ refused (sym (ap (λ a. a.number) told)) (sym (ap (λ a. a.line) told))

-- THE READER'S ANSWER

pub read_by_meaning : (s w : List ℕ) → 1000 ≤ ∣ w ∣ → on_read s w ≡ answer (meaning s) w
unfolding on_read
read_by_meaning s w room = rw (le-ltb ∣ w ∣ 1000 room)

module _ (s w : List ℕ) (room : 1000 ≤ ∣ w ∣) {blank : ℕ} (is_cart : blank ≡ cart) where
  -- The reader takes a blank policy for cart.
  by_cart : meaning s ≡ meaning_where (means blank) s
  by_cart = ap (λ policy. meaning_where (means policy) s) (sym is_cart)

  pub pages_read : {w' : List ℕ} {b : Bid} {start : ℕ} → JudgedGood s (meaning_where (means blank) s) b start
      → PagesFilled s start w w' → ReadAs (on_read s w) (Ok b) w'
  pages_read h filled = rw (read_by_meaning s w room, by_cart, h.meaning_is) (record {
    number_is = refl;
    line_is = refl;
    policy_is = refl;
    c_is = refl;
    cost_is = refl;
    count_is = h.count_is;
    words_are = filled h.pages h.pages_there;
  })

  pub none_read : (e : RefusedAt) → meaning_where (means blank) s ≡ refused (number_of e.refusal) e.line
      → ReadAs (on_read s w) (Err e) w
  none_read e is = rw (read_by_meaning s w room, by_cart, is) (search rules)

pub short_buffer : (s w : List ℕ) {e : RefusedAt} → ∣ w ∣ < 1000 → e.refusal ≡ Refusal.BufferTooShort → e.line ≡ 0
    → ReadAs (on_read s w) (Err e) w
unfolding on_read
short_buffer s w short refusal line = rw (lt-ltb ∣ w ∣ 1000 short) (search rules)
