-- Two outcomes that a promise allows are equal: the answer and every lent byte afterwards.
use Rattle.std.specs.Prelude.{Result}
use mathlib.Core.Path.{◌≡◌, sym, ap, ◌∙◌}
use mathlib.Core.List.{List}
use Prim.Native.Nat.{ℕ}
use Rattle.terms.specs.declared.refusals.Refusal.{Refusal}
use Rattle.terms.specs.declared.refusals.RefusedAt.{RefusedAt}
use Rattle.terms.proofs.Numbers.{same_answer_at}
use Rattle.result.proofs.Determined.{determined}
use Rattle.result.specs.Promises.{count_in}
use Rattle.copying.specs.Promises.{SheetCopied, CopyAnswered}

module _ (sheet out : List ℕ) {out₁ out₂ : List ℕ} where
  pub copy_determined : {r s : Result ℕ RefusedAt} → SheetCopied sheet out r out₁ → SheetCopied sheet out s out₂
      → (r ≡ s) × (out₁ ≡ out₂)
  copy_determined {r} {s} a b =
      let count : count_in r ≡ count_in s = a.count_is ∙ sym b.count_is in (
        same_answer_at r s (a.number_is ∙ sym b.number_is) (a.line_is ∙ sym b.line_is)
            (λ m n is is'. sym (ap count_in is) ∙ count ∙ ap count_in is'),
        a.bytes_are ∙ sym b.bytes_are,
      )

  pub answer_determined : {r s : Result ℕ Refusal} → CopyAnswered sheet out r out₁ → CopyAnswered sheet out s out₂
      → (r ≡ s) × (out₁ ≡ out₂)
  answer_determined a b = determined a.wrote b.wrote
