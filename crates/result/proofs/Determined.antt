-- Two outcomes that a promise allows are equal: the answer and every lent byte afterwards.
use Rattle.std.specs.Prelude.{Result}
use mathlib.Core.Path.{◌≡◌, sym, ◌∙◌}
use mathlib.Core.List.{List}
use Prim.Native.Nat.{ℕ}
use Rattle.terms.specs.declared.refusals.Refusal.{Refusal}
use Rattle.terms.proofs.Numbers.{same_answer}
use Rattle.sheets.specs.Refusals as Sheets
use Rattle.result.specs.declared.Outcome.{Outcome}
use Rattle.result.specs.declared.Request.{Request}
use Rattle.result.specs.Promises.{count_in, Wrote, WroteSheet, WroteRefusal, WroteRequest}

module _ {out₁ out₂ : List ℕ} {r s : Result ℕ Refusal} where
  pub determined : {w : Sheets.Written} → Wrote w r out₁ → Wrote w s out₂ → (r ≡ s) × (out₁ ≡ out₂)
  determined a b =
      let count : count_in r ≡ count_in s = a.count_is ∙ sym b.count_is in
      (same_answer r s (a.number_is ∙ sym b.number_is) (λ n m is-n is-m. cc), a.bytes_are ∙ sym b.bytes_are)

  pub sheet_determined : (o : Outcome) (out : List ℕ)
      → WroteSheet o out r out₁ → WroteSheet o out s out₂ → (r ≡ s) × (out₁ ≡ out₂)
  sheet_determined o out = determined

  pub refusal_determined : (number line : ℕ) (out : List ℕ)
      → WroteRefusal number line out r out₁ → WroteRefusal number line out s out₂ → (r ≡ s) × (out₁ ≡ out₂)
  refusal_determined number line out = determined

  pub request_determined : (request : Request) (out : List ℕ)
      → WroteRequest request out r out₁ → WroteRequest request out s out₂ → (r ≡ s) × (out₁ ≡ out₂)
  request_determined request out = determined
