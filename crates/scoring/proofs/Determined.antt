-- Two outcomes that a promise allows are equal: the answer and all lent memory afterwards.
use mathlib.Core.Path.{◌≡◌, sym, ap, ◌∙◌}
use mathlib.Core.List.{List}
use Prim.Native.Nat.{ℕ}
use Rattle.terms.proofs.Numbers.{same_answer_at}
use Rattle.scoring.specs.declared.Scored.{Scored}
use Rattle.scoring.specs.Refusals.{Scoring, on_score, on_ledger}
use Rattle.scoring.specs.Promises.{requests_of, ScoredAs, SheetScored, SheetLedgered}

answers_determined : (d : Scoring) {pages₁ dir₁ answers₁ out₁ pages₂ dir₂ answers₂ out₂ : List ℕ} {r s : Scored}
    → ScoredAs d r pages₁ dir₁ answers₁ out₁ → ScoredAs d s pages₂ dir₂ answers₂ out₂
    → (r ≡ s) × (pages₁ ≡ pages₂) × (dir₁ ≡ dir₂) × (answers₁ ≡ answers₂) × (out₁ ≡ out₂)
answers_determined d {r = r} {s} a b =
    let number = a.number_is ∙ sym b.number_is in
    let line = a.line_is ∙ sym b.line_is in
    let requests = a.requests_are ∙ sym b.requests_are in
    let served : r.served ≡ s.served
    = same_answer_at r.served s.served number line
    (λ n m is is'. ap requests_of (sym is) ∙ requests ∙ ap requests_of is') in
    let count : r.count ≡ s.count = a.count_is ∙ sym b.count_is in (
      λ i. record { served = served i; count = count i },
      a.pages_are ∙ sym b.pages_are,
      a.dir_is ∙ sym b.dir_is,
      a.answers_are ∙ sym b.answers_are,
      a.out_is ∙ sym b.out_is,
    )

module _ (sheet pages dir answers out : List ℕ) {r s : Scored}
    {pages₁ dir₁ answers₁ out₁ pages₂ dir₂ answers₂ out₂ : List ℕ} where
  pub score_determined : SheetScored sheet pages dir answers out r pages₁ dir₁ answers₁ out₁
      → SheetScored sheet pages dir answers out s pages₂ dir₂ answers₂ out₂
      → (r ≡ s) × (pages₁ ≡ pages₂) × (dir₁ ≡ dir₂) × (answers₁ ≡ answers₂) × (out₁ ≡ out₂)
  score_determined = answers_determined (on_score sheet pages dir answers out)

  pub ledger_determined : SheetLedgered sheet pages dir answers out r pages₁ dir₁ answers₁ out₁
      → SheetLedgered sheet pages dir answers out s pages₂ dir₂ answers₂ out₂
      → (r ≡ s) × (pages₁ ≡ pages₂) × (dir₁ ≡ dir₂) × (answers₁ ≡ answers₂) × (out₁ ≡ out₂)
  ledger_determined = answers_determined (on_ledger sheet pages dir answers out)
