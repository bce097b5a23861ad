-- Whether the lent memory is enough decides: refusal 6, or what the sheet comes to.
use mathlib.Core.Path.{◌≡◌, sym, ◌∙◌}
use mathlib.Core.Bool.{Bool, true, false}
use mathlib.Core.List.{List}
use Prim.Native.Nat.{ℕ}
use borrow.Author.Rules.{rules}
use Rattle.terms.proofs.Tests.{reads}
use Rattle.scoring.specs.declared.Scored.{Scored}
use Rattle.scoring.specs.Refusals.{enough, on_sheet}
use Rattle.scoring.specs.Promises.{ScoredAs}
use Rattle.scoring.specs.Ready.{too_little, Lent, AnsweredWith}

module _ (least : ℕ) {pages dir answers out : List ℕ} {told : Bool}
    (is : told ≡ enough least pages dir answers out) where
  pub lent : told ≡ true → Lent least pages dir answers out
  unfolding enough
  lent h =
      let said = simp reads at (sym is ∙ h) in
      record { pages_fit = said.0; dir_fits = said.1.0; answers_fit = said.1.1.0; out_fits = said.1.1.1 }

  pub short_answers : (text sheet : List ℕ) {r : Scored} → told ≡ false → r ≡ too_little
      → ScoredAs (on_sheet text least sheet pages dir answers out) r pages dir answers out
  unfolding on_sheet
  short_answers text sheet h e = rw (sym is ∙ h, e) (search rules)

  pub sheet_answers : {text sheet : List ℕ} {r : Scored} {pages' dir' answers' out' : List ℕ} → told ≡ true
      → AnsweredWith text sheet pages dir answers out r pages' dir' answers' out'
      → ScoredAs (on_sheet text least sheet pages dir answers out) r pages' dir' answers' out'
  unfolding on_sheet
  sheet_answers h a = rw (sym is ∙ h) a.answer_is
