-- Two outcomes that a promise allows are equal: the answer and all lent memory afterwards.
use Rattle.std.specs.Prelude.{Result}
use mathlib.Core.Path.{◌≡◌, sym, ◌∙◌}
use mathlib.Core.List.{List}
use Prim.Native.Nat.{ℕ}
use Rattle.terms.specs.declared.refusals.Refusal.{Refusal}
use Rattle.terms.specs.declared.refusals.RefusedAt.{RefusedAt}
use Rattle.terms.proofs.Numbers.{same_answer, same_answer_at}
use Rattle.result.specs.Promises.{count_in}
use Rattle.council.specs.Promises.{PagesTaken, PagesAnswered}

module _ (file : List ℕ) (unit : ℕ) (pages : List ℕ) {pages₁ pages₂ : List ℕ} where
  pub pages_determined : {r s : Result ℕ RefusedAt} → PagesTaken file unit pages r pages₁
      → PagesTaken file unit pages s pages₂ → (r ≡ s) × (pages₁ ≡ pages₂)
  pages_determined {r} {s} a b =
      let count : count_in r ≡ count_in s = a.count_is ∙ sym b.count_is in (
        same_answer_at r s (a.number_is ∙ sym b.number_is) (a.line_is ∙ sym b.line_is) (λ n m is-n is-m. cc),
        a.words_are ∙ sym b.words_are,
      )

  pub answer_determined : (out : List ℕ) {out₁ out₂ : List ℕ} {r s : Result ℕ Refusal}
      → PagesAnswered file unit pages out r pages₁ out₁ → PagesAnswered file unit pages out s pages₂ out₂
      → (r ≡ s) × (pages₁ ≡ pages₂) × (out₁ ≡ out₂)
  answer_determined out {r = r} {s} a b =
      let count : count_in r ≡ count_in s = a.count_is ∙ sym b.count_is in (
        same_answer r s (a.number_is ∙ sym b.number_is) (λ n m is-n is-m. cc),
        a.words_are ∙ sym b.words_are,
        a.bytes_are ∙ sym b.bytes_are,
      )
