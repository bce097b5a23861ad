-- Two outcomes that the reader's promises allow are equal: the answer and every lent word afterwards.
use Rattle.std.specs.Prelude.{Result}
use mathlib.Core.Path.{◌≡◌, sym, ap, ◌∙◌}
use mathlib.Core.List.{List}
use Prim.Native.Nat.{ℕ}
use Rattle.terms.specs.declared.refusals.RefusedAt.{RefusedAt}
use Rattle.terms.proofs.Numbers.{same_answer_at}
use Rattle.bid.specs.Promises.{bid_in, answer_in, BidJudged, BidRead}
use Rattle.bid.specs.declared.Bid.{Bid}

-- The view is one-to-one: an answer by its number, its line and its words.
one_answer : (r s : Result Bid RefusedAt) → answer_in r ≡ answer_in s → r ≡ s
one_answer r s same =
    same_answer_at r s (ap (λ a. a.number) same) (ap (λ a. a.line) same)
    (λ a b is is'. sym (ap bid_in is) ∙ ap (λ a. a.its_bid) same ∙ ap bid_in is')

pub judge_determined : (sheet : List ℕ) (blank : ℕ) {r s : Result Bid RefusedAt}
    → BidJudged sheet blank r → BidJudged sheet blank s → r ≡ s
judge_determined sheet blank {r} {s} a b = one_answer r s (a ∙ sym b)

pub read_determined : (sheet pages : List ℕ) {pages₁ pages₂ : List ℕ} {r s : Result Bid RefusedAt}
    → BidRead sheet pages r pages₁ → BidRead sheet pages s pages₂ → (r ≡ s) × (pages₁ ≡ pages₂)
read_determined sheet pages {r = r} {s} a b =
    let number = a.number_is ∙ sym b.number_is in
    let line = a.line_is ∙ sym b.line_is in
    let policy = a.policy_is ∙ sym b.policy_is in
    let c = a.c_is ∙ sym b.c_is in
    let cost = a.cost_is ∙ sym b.cost_is in
    let count = a.count_is ∙ sym b.count_is in
    let its_bid : bid_in r ≡ bid_in s = λ i. record { policy = policy i; c = c i; cost = cost i; count = count i } in (
      one_answer r s (λ i. record { number = number i; line = line i; its_bid = its_bid i }),
      a.words_are ∙ sym b.words_are,
    )
