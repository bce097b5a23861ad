-- What the reader's answer says of the sheet: a refusal by its number, or the bid that the answer and the buffer hold.
use Rattle.std.specs.Prelude.{Result, Ok, Err}
use mathlib.Core.Path.{◌≡◌, refl, sym, ap, subst, ◌∙◌}
use mathlib.Core.List.{List}
use Prim.Native.Nat.{ℕ, ◌≤◌}
use native.Mathlib.Omega.{arith}
use lib.ListN.{take}
use lib.Seq.{take_at}
use Rattle.terms.specs.Choice.{∣◌∣}
use Rattle.terms.specs.Policies.{cart}
use Rattle.terms.specs.Refusals.{number_of}
use Rattle.terms.specs.declared.refusals.RefusedAt.{RefusedAt}
use Rattle.terms.proofs.Numbers.{not_accepted}
use Rattle.sheets.specs.Bid.{Meaning, bid, refused, meaning}
use Rattle.sheets.specs.Refusals.{answer, over}
use Rattle.sheets.proofs.Bids.{refusal_has_number}
use Rattle.bid.specs.declared.Bid.{Bid}
use Rattle.bid.specs.Promises.{ReadAs, BidRead}
use Rattle.bid.proofs.Reader.{read_by_meaning}
use Rattle.scoring.specs.Ready.{meant}

-- The refusal is the answer's, and the buffer is as it was.
pub record Refused (m : Meaning) (w : List ℕ) (r : RefusedAt) (w' : List ℕ) : Type 0 where
  pub means_refusal : m ≡ refused (number_of r.refusal) r.line
  pub words_stay : w' ≡ w

-- The bid is the answer's, with as many pages over the buffer as it counts.
pub record Accepted (m : Meaning) (w : List ℕ) (r : Bid) (w' : List ℕ) : Type 0 where
  pub means_bid : m ≡ bid (meant r w')
  pub as_many : ∣ take r.count w' ∣ ≡ r.count
  pub words_are : w' ≡ over (take r.count w') w

module _ (s w : List ℕ) (room : 1000 ≤ ∣ w ∣) (w' : List ℕ) where
  by_meaning : (r : Result Bid RefusedAt) → BidRead s w r w' → ReadAs (answer (meaning s) w) r w'
  by_meaning r h = subst (λ a. ReadAs a r w') (read_by_meaning s w room) h

  refused_as : (r : RefusedAt) (m : Meaning) → ReadAs (answer m w) (Err r) w' → Refused m w r w'
  refused_as r (bid b) a = absurd (not_accepted r.refusal a.number_is)
  refused_as r (refused number line) a = record {
    means_refusal = rw (a.number_is, a.line_is);
    words_stay = a.words_are;
  }

  pub sheet_refused : (r : RefusedAt) → BidRead s w (Err r) w' → Refused (meaning s) w r w'
  sheet_refused r h = refused_as r (meaning s) (by_meaning (Err r) h)

  accepted_as : (r : Bid) (m : Meaning) → ReadAs (answer m w) (Ok r) w'
      → ((number line : ℕ) → m ≡ refused number line → 1 ≤ number) → Accepted m w r w'
  accepted_as r (bid b) a numbered =
      let pages : take r.count w' ≡ b.pages
      = ap (take r.count) a.words_are ∙ take_at b.pages _ r.count (sym a.count_is) in
      record {
        means_bid = rw (a.policy_is, a.c_is, a.cost_is, pages);
        as_many = ap ∣◌∣ pages ∙ sym a.count_is;
        words_are = a.words_are ∙ ap (λ (listed : List ℕ). over listed w) (sym pages);
      }
  accepted_as r (refused number line) a numbered =
      let least = numbered number line refl in absurd (omega (arith, a.number_is))

  pub sheet_accepted : (r : Bid) → BidRead s w (Ok r) w' → Accepted (meaning s) w r w'
  sheet_accepted r h = accepted_as r (meaning s) (by_meaning (Ok r) h) (refusal_has_number cart refl s)
