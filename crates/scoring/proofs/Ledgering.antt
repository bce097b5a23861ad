-- The ledger of a sheet: what is printed of it, and behind that the lines of its requests.
use mathlib.Core.Path.{◌≡◌, sym, ap, ◌∙◌}
use mathlib.Core.List.{List, ◌++◌}
use Prim.Native.Nat.{ℕ, ◌+◌, ◌*◌}
use native.Mathlib.Omega.{arith}
use native.Mathlib.Nat.{zero-add}
use lib.ListN.{take, drop}
use lib.Seq.{take_at, length-take-le}
use Rattle.terms.specs.Choice.{∣◌∣}
use Rattle.figures.specs.Directory.{fresh}
use Rattle.figures.specs.Run.{zero_tally}
use Rattle.sheets.specs.Bid.{Meaning, bid, refused, meaning}
use Rattle.result.specs.Put.{Put}
use Rattle.result.proofs.Putting.{both, put_over}
use Rattle.scoring.specs.declared.Scored.{Scored}
use Rattle.scoring.specs.Scored.{replayed, scored, ledger_lines, request_lines, ledgered}
use Rattle.scoring.specs.Refusals.{answered}
use Rattle.scoring.specs.Promises.{requests_of, ScoredAs}
use Rattle.scoring.specs.Ready.{TextOver, Lent, Requests, AnsweredWith}
use Rattle.scoring.proofs.Lines.{four_words}
use Rattle.scoring.proofs.Writing.{over_fits, PutWithin, part_put}

-- What the scoring leaves for the ledger: requests whose lines are those of the sheet's meaning; and its text.
pub record LeftForLedger (m : Meaning) (text out : List ℕ) (r : Scored) (pages' answers' out' : List ℕ) : Type 0 where
  pub lines_are : ledger_lines 1 (take (requests_of r.served) pages') (take (4 * requests_of r.served) answers') ≡ request_lines m
  pub text_over : TextOver text out r.count out'

-- The same answer with another text, over other bytes.
abbrev pub counting : Scored → ℕ → Scored
counting r count = record { served = r.served; count = count }

module _ (text pages dir answers out : List ℕ) {r : Scored} {pages' dir' answers' out' : List ℕ} where
  served : (m : Meaning) → ScoredAs (answered m text pages dir answers out) r pages' dir' answers' out'
      → LeftForLedger m text out r pages' answers' out'
  unfolding request_lines ledger_lines
  served (bid b) a =
      let many = a.requests_are in
      let words : ∣ (replayed b).answers ∣ ≡ 4 * requests_of r.served
      = four_words zero_tally b.pages (fresh b.policy b.c) ∙ ap (λ (n : ℕ). 4 * n) (sym many) in
      record {
        lines_are = rw (
          a.pages_are,
          a.answers_are,
          take_at b.pages _ (requests_of r.served) (sym many),
          take_at (replayed b).answers _ (4 * requests_of r.served) words,
        );
        text_over = record { count_is = a.count_is; out_is = a.out_is };
      }
  served (refused number line) a = record {
    lines_are = rw a.requests_are;
    text_over = record { count_is = a.count_is; out_is = a.out_is };
  }

  with_text : (m : Meaning) (text₂ out₂ : List ℕ) {count : ℕ} {out₂' : List ℕ}
      → ScoredAs (answered m text pages dir answers out) r pages' dir' answers' out' → TextOver text₂ out₂ count out₂'
      → ScoredAs (answered m text₂ pages dir answers out₂) (counting r count) pages' dir' answers' out₂'
  with_text (bid b) text₂ out₂ a over = search (over_fits over)
  with_text (refused number line) text₂ out₂ a over = search (over_fits over)

-- The scoring is lent the first 256 bytes.
module _ {pages dir answers out : List ℕ} (lent : Lent (256 * 1001) pages dir answers out) where
  pub first_bytes : 256 ≡ ∣ take 256 out ∣
  first_bytes = sym (length-take-le 256 out (omega arith))

  pub lent_part : Lent 256 pages dir answers (take 256 out)
  lent_part = omega (arith, first_bytes)

module _ {s pages dir answers out : List ℕ} (lent : Lent (256 * 1001) pages dir answers out)
    {r : Scored} {pages' dir' answers' part : List ℕ}
    (h : AnsweredWith (scored s) s pages dir answers (take 256 out) r pages' dir' answers' part)
    (same : ∣ part ∣ ≡ ∣ take 256 out ∣) where
  sheet_served : LeftForLedger (meaning s) (scored s) (take 256 out) r pages' answers' part
  sheet_served = served (scored s) pages dir answers (take 256 out) (meaning s) h.answer_is

  sheet_put : PutWithin out 0 (scored s) 256 (part ++ drop 256 out) (0 + r.count)
  sheet_put = part_put out (scored s) part 0 256 (omega (arith, lent.out_fits)) sheet_served.text_over same

  pub requests_ready : ∣ pages' ∣ ≡ ∣ pages ∣ → ∣ answers' ∣ ≡ ∣ answers ∣
      → Requests r.count (take (requests_of r.served) pages') (take (4 * requests_of r.served) answers') (part ++ drop 256 out)
  requests_ready pages-same answers-same =
      let many = length-take-le (requests_of r.served) pages' (omega (arith, h.few, lent.pages_fit)) in
      let words = length-take-le (4 * requests_of r.served) answers' (omega (arith, h.few, lent.answers_fit)) in
      record {
        few = omega (arith, many, h.few);
        answers_there = omega (arith, many, words);
        begins = omega (arith, sheet_put.not_far);
        out_fits = omega (arith, sheet_put.is_put.as_long, lent.out_fits);
      }

  pub sheet_ledgered : {out' : List ℕ} {next : ℕ}
      → Put (part ++ drop 256 out) r.count
      (ledger_lines 1 (take (requests_of r.served) pages') (take (4 * requests_of r.served) answers')) out' next
      → AnsweredWith (ledgered s) s pages dir answers out (counting r next) pages' dir' answers' out'
  unfolding ledgered
  sheet_ledgered {out'} {next} put =
      let text = scored s ++ request_lines (meaning s) in
      let all : Put out 0 text out' next
      = both (rw zero-add at sheet_put.is_put) (rw sheet_served.lines_are at put) in
      record {
        answer_is = with_text (scored s) pages dir answers (take 256 out) (meaning s) text out h.answer_is
            (record { count_is = all.next_is ∙ zero-add ∣ text ∣; out_is = put_over all });
        few = h.few;
      }
