-- The copy by the answer of the sheet as it was filed: refused where that one is, then by its length.
use Rattle.std.specs.Prelude.{Result, Ok, Err}
use mathlib.Core.Path.{◌≡◌, refl, subst, ◌∙◌}
use mathlib.Core.List.{List}
use Prim.Native.Nat.{ℕ, ◌≤◌, ◌<◌}
use native.Mathlib.Nat.{zero-add}
use native.Mathlib.Omega.{arith}
use borrow.Author.Rules.{rules}
use borrow.Author.Tests.{lt-ltb, le-ltb}
use Rattle.terms.specs.Choice.{∣◌∣}
use Rattle.terms.specs.Policies.{car}
use Rattle.terms.specs.Refusals.{number_of}
use Rattle.terms.specs.declared.refusals.Refusal.{Refusal}
use Rattle.terms.specs.declared.refusals.RefusedAt.{RefusedAt}
use Rattle.sheets.specs.Bid.{filed_meaning}
use Rattle.sheets.specs.Copy.{copy, not_copied, copy_of}
use Rattle.sheets.specs.Refusals.{copied_into, on_copy}
use Rattle.sheets.specs.Demands.{HasCopy}
use Rattle.sheets.proofs.Bids.{bid_is_short}
use Rattle.sheets.proofs.Copies.{refused_not_copied, good_sheets_copied}
use Rattle.bid.specs.declared.Bid.{Bid}
use Rattle.bid.specs.Promises.{BidJudged}
use Rattle.bid.proofs.Reader.{Accepted, sheet_accepted, sheet_refused}
use Rattle.result.specs.Put.{PutFits, Put}
use Rattle.result.proofs.Putting.{put_over}
use Rattle.copying.specs.Promises.{SheetCopied}

-- BY THE SHEET AS IT WAS FILED

module _ (s : List ℕ) {policy : ℕ} (is_car : policy ≡ car) where
  -- A blank policy meant car then.
  filed : (r : Result Bid RefusedAt) → BidJudged s policy r → BidJudged s car r
  filed r judged = subst (λ p. BidJudged s p r) is_car judged

  pub not-copied : (e : RefusedAt) → BidJudged s policy (Err e) → copy_of s ≡ not_copied (number_of e.refusal) e.line
  not-copied e judged = refused_not_copied s _ _ (sheet_refused car refl s e (filed (Err e) judged))

  module _ (b : Bid) (judged : BidJudged s policy (Ok b)) where
    accepted : Accepted (filed_meaning s)
    accepted = sheet_accepted car refl s b (filed (Ok b) judged)

    pub has_copy : HasCopy s
    has_copy = good_sheets_copied s accepted.its_bid accepted.means_bid

    -- A sheet that is accepted is not too long itself.
    pub room_for_sheet : {out : List ℕ} → 16000 ≤ ∣ out ∣ → PutFits out 0 s
    room_for_sheet room = record { fits = omega (arith, bid_is_short _ s _ accepted.means_bid) }

-- THE COPY'S ANSWER

module _ (s out : List ℕ) where
  pub short_buffer : (e : RefusedAt) → ∣ out ∣ < 16000 → e.refusal ≡ Refusal.BufferTooShort → e.line ≡ 0
      → SheetCopied s out (Err e) out
  unfolding on_copy
  short_buffer e short refusal line = rw (lt-ltb ∣ out ∣ 16000 short, refusal, line) (search rules)

  module _ (room : 16000 ≤ ∣ out ∣) where
    pub by_copy : on_copy s out ≡ copied_into (copy_of s) out
    unfolding on_copy
    by_copy = rw (le-ltb ∣ out ∣ 16000 room)

    pub answers_refusal : (e : RefusedAt) → copy_of s ≡ not_copied (number_of e.refusal) e.line
        → SheetCopied s out (Err e) out
    answers_refusal e is = rw (by_copy, is) (search rules)

    pub answers_copy : {t out' : List ℕ} {n : ℕ} → copy_of s ≡ copy t → Put out 0 t out' n
        → SheetCopied s out (Ok n) out'
    answers_copy {t} is put = rw (by_copy, is) (record {
      number_is = refl;
      line_is = refl;
      count_is = put.next_is ∙ zero-add ∣ t ∣;
      bytes_are = put_over put;
    })
