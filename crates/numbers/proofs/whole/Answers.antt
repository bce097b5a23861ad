-- Digits in form are worth at most 9,999,999,999; what is above 4,294,967,295 is refused.
use Rattle.std.proofs.Common.{◌≡◌, true, false, sym, ap, ◌∙◌, arith, List, ℕ, ◌<◌}
use Rattle.std.specs.Prelude.{Result, Ok, Err}
use Rattle.std.specs.Result.{OkIff, result_ok}
use Rattle.text.specs.Digits.{value}
use Rattle.sheets.specs.Number.{means, digits_form, whole}
use Rattle.sheets.proofs.Forms.{in-form, whole_is, whole_not_in_form, whole_too_large}
use Rattle.numbers.specs.Meant.{meant}
use Rattle.numbers.proofs.whole.Goals as goal

pub returns-then-not-in_form : goal.returns-then-not-in_form
returns-then-not-in_form c =
    let s = c.args.text.now in let isnt : digits_form 10 s ≡ false = cc in sym (whole_not_in_form s isnt)

pub value-n-requires-clause-digits : goal.value-n-requires-clause-digits
value-n-requires-clause-digits c =
    let s = c.args.text.now in let form : digits_form 10 s ≡ true = cc in (in-form 10 s form).digits

pub value-n-requires-clause-at_most_ten : goal.value-n-requires-clause-at_most_ten
value-n-requires-clause-at_most_ten c =
    let s = c.args.text.now in let form : digits_form 10 s ≡ true = cc in (in-form 10 s form).at_most

-- A number that fits is meant, and one that does not is too large.
fitting : {E : Type 0} (s : List ℕ) (n : ℕ) (r : Result ℕ E) → n ≡ value s → digits_form 10 s ≡ true → OkIff r (n < 4294967296) n
    → meant (result_ok r) ≡ whole s
fitting s n (Ok m) is form fits = ap means (fits.1 ∙ is) ∙ sym (whole_is s form (omega (arith, is, fits.0)))
fitting s n (Err e) is form fits =
    let large : n < 4294967296 → ⊥ = fits in sym (whole_too_large s (omega (arith, is, large)))

pub returns : goal.returns
returns c =
    let s = c.args.text.now in
    let form : digits_form 10 s ≡ true = cc in
    ap meant c.ok.ensures.value ∙ fitting s _ _ (omega (arith, c.value-n.ensures)) form c.try_from.ensures
