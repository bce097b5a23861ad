-- A bid scored, and a sheet scored, by the promises of the reader, the run and the writers.
use Rattle.std.specs.Prelude.{Result, Ok, Err}
use Rattle.std.specs.Result.{IsOk}
use mathlib.Core.Path.{◌≡◌, refl, sym, ap, subst, ◌∙◌}
use mathlib.Core.List.{List, ◌++◌}
use Prim.Native.Nat.{ℕ, ◌+◌, ◌*◌, ◌≤◌}
use native.Mathlib.Omega.{arith}
use lib.ListN.{take, drop}
use lib.Seq.{length-take-le}
use Rattle.terms.specs.Choice.{∣◌∣}
use Rattle.terms.specs.Policies.{cart}
use Rattle.terms.specs.Refusals.{number_of}
use Rattle.terms.specs.declared.refusals.Refusal.{Refusal}
use Rattle.terms.specs.declared.refusals.RefusedAt.{RefusedAt}
use Rattle.figures.specs.Run as Run
use Rattle.figures.specs.Words.{encode}
use Rattle.tally.specs.declared.Tally.{Tally}
use Rattle.sheets.specs.Bid.{meaning}
use Rattle.sheets.specs.Demands.{InRange}
use Rattle.sheets.specs.Result.{result_sheet, refused_sheet}
use Rattle.sheets.proofs.Bids.{bids_in_range}
use Rattle.bid.specs.declared.Bid.{Bid}
use Rattle.bid.specs.Promises.{BidRead}
use Rattle.result.specs.declared.Outcome.{Outcome}
use Rattle.result.specs.Promises.{WroteSheet, WroteRefusal}
use Rattle.scoring.specs.declared.Scored.{Scored}
use Rattle.scoring.specs.Promises.{requests_of}
use Rattle.scoring.specs.Scored.{outcome, replayed, printed, scored}
use Rattle.scoring.specs.Ready.{Fitting, RanFresh, Lent, GoodBid, meant}
use Rattle.scoring.specs.Ready.{TextOver, BidScored, AnsweredWith}
use Rattle.scoring.proofs.Reading.{Accepted, sheet_refused, sheet_accepted}
use Rattle.scoring.proofs.Writing.{sheet_written, sheet_over, text_written, text_over, over_fits}

-- What `score_bid` hands the writer.
abbrev handed : Bid → Tally → ℕ → Outcome
handed b t wait = record {
  policy = b.policy;
  pages = b.c;
  requests = t.requests;
  hits = t.hits;
  misses = t.misses;
  evictions = t.evictions;
  steps = t.moves;
  wait = wait;
}

module _ {b : Bid} {pages dir answers out : List ℕ} (h : GoodBid b pages dir answers out) where
  dir_part : ∣ take (8 + 4 * b.c) dir ∣ ≡ 8 + 4 * b.c
  dir_part = length-take-le (8 + 4 * b.c) dir (omega (arith, h.size-known.1, h.lent.dir_fits))

  pub fitting : Fitting b.policy b.c (take (8 + 4 * b.c) dir) (take b.count pages) answers
  fitting =
      let many = length-take-le b.count pages (omega (arith, h.few, h.lent.pages_fit)) in
      record {
        policy-known = h.policy-known;
        size-known = h.size-known;
        exact = dir_part;
        few = omega (arith, h.few, many);
        room = omega (arith, h.few, many, h.lent.answers_fit);
      }

  pub handed_written : (t : Tally) (wait : ℕ) {out' : List ℕ} {r : Result ℕ Refusal}
      → WroteSheet (handed b t wait) out r out' → IsOk r
  handed_written t wait wrote = sheet_written (handed b t wait) out h.policy-known h.lent.out_fits wrote

  pub bid_scored : {t : Tally} {w answers' out' : List ℕ} {wait : ℕ} {r : Result ℕ Refusal} {count : ℕ}
      → RanFresh b.policy b.c (take b.count pages) answers t w answers'
      → ∣ w ∣ ≡ ∣ take (8 + 4 * b.c) dir ∣
      → wait ≡ t.misses * b.cost
      → WroteSheet (handed b t wait) out r out' → r ≡ Ok count
      → BidScored b pages dir answers out (record { served = Ok b.count; count = count })
      (w ++ drop (8 + 4 * b.c) dir) answers' out'
  unfolding printed
  bid_scored {t} {w} {out' = out'} {wait} {count = count} ran same is wrote counted =
      let front = sheet_over (handed b t wait) out h.policy-known h.lent.out_fits wrote counted in
      let long : ∣ encode (replayed (meant b pages)).dir ∣ ≡ 8 + 4 * b.c
      = ap ∣◌∣ (sym ran.words_are) ∙ same ∙ dir_part in
      record {
        served_is = refl;
        dir_is =
            ap (λ (v : List ℕ). v ++ drop (8 + 4 * b.c) dir) ran.words_are
            ∙ ap (λ (n : ℕ). encode (replayed (meant b pages)).dir ++ drop n dir) (sym long);
        answers_are = ran.answers_are;
        prints =
            subst
            (λ (x : Run.Tally). TextOver (result_sheet (outcome (meant b pages) x)) out count out')
            ran.tally_is
            (rw is at front);
      }

module _ (s : List ℕ) {pages dir answers out : List ℕ} (lent : Lent 256 pages dir answers out)
    {pages' : List ℕ} where
  module _ {e : RefusedAt} (read : BidRead s pages (Err e) pages') where
    pub refusal_written : {out' : List ℕ} {w : Result ℕ Refusal}
        → WroteRefusal (number_of e.refusal) e.line out w out' → IsOk w
    refusal_written wrote = text_written (refused_sheet (number_of e.refusal) e.line) out lent.out_fits wrote

    pub refusal_scored : {out' : List ℕ} {w : Result ℕ Refusal} {count : ℕ}
        → WroteRefusal (number_of e.refusal) e.line out w out' → w ≡ Ok count
        → AnsweredWith (scored s) s pages dir answers out (record { served = Err e; count = count }) pages' dir answers out'
    unfolding printed scored
    refusal_scored wrote is =
        let told = sheet_refused s pages lent.pages_fit pages' e read in
        let front = text_over (refused_sheet (number_of e.refusal) e.line) out lent.out_fits wrote is in
        record {
          answer_is = rw told.means_refusal (search (over_fits front, front, told));
          few = omega arith;
        }

  module _ {b : Bid} (read : BidRead s pages (Ok b) pages') where
    accepted : Accepted (meaning s) pages b pages'
    accepted = sheet_accepted s pages lent.pages_fit pages' b read

    in-range : InRange (meant b pages')
    in-range = bids_in_range cart refl s (meant b pages') accepted.means_bid

    few : b.count ≤ 1000
    few = omega (arith, accepted.as_many, in-range.pages_at_most)

    pub good_bid : ∣ pages' ∣ ≡ ∣ pages ∣ → GoodBid b pages' dir answers out
    good_bid same = record {
      lent = record {
        pages_fit = omega (arith, lent.pages_fit);
        dir_fits = lent.dir_fits;
        answers_fit = lent.answers_fit;
        out_fits = lent.out_fits;
      };
      policy-known = in-range.policy-known;
      size-known = in-range.size-known;
      few = few;
    }

    pub sheet_scored : {dir' answers' out' : List ℕ} {r : Scored}
        → BidScored b pages' dir answers out r dir' answers' out'
        → AnsweredWith (scored s) s pages dir answers out r pages' dir' answers' out'
    unfolding scored
    sheet_scored {r = r} h = record {
      answer_is = rw accepted.means_bid (search (over_fits h.prints, accepted));
      few = omega (arith, ap requests_of h.served_is, few);
    }
