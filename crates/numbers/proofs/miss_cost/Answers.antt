-- The comma's place cuts the bytes into the two parts of the definition.
use Rattle.std.proofs.Common.{◌≡◌, true, List, ℕ, length, take, ap, sym, ◌∙◌, arith}
use Rattle.std.specs.Prelude.{Option, Some, None}
use Rattle.std.specs.Option.{unwrap_or}
use Rattle.text.specs.Bytes.{FoundAt, index_of}
use Rattle.text.specs.Digits.{all_digits}
use Rattle.sheets.specs.Number.{means, comma, digits_form}
use Rattle.sheets.proofs.Forms.{in-form, no_cost, three_after, behind, cost_in_parts, cost_from_parts}
use Rattle.numbers.proofs.miss_cost.Goals as goal
use Rattle.numbers.proofs.miss_cost.Goals.{then-not-in_form-via-then-not-in_form}
use Rattle.numbers.proofs.miss_cost.Goals.{then-not-in_form-via-else-not-in_form+then-not-all_digits}

-- The comma's place, the length where there is none.
place : (s : List ℕ) (found : Option ℕ) (n : ℕ) → FoundAt comma s found → n ≡ unwrap_or found (length s) → n ≡ index_of comma s
place s None n none is = is ∙ sym none
place s (Some k) n here is = is ∙ here.0

pub returns-then-text-n : goal.returns-then-text-n
returns-then-text-n c =
    let s = c.args.text.now in sym (no_cost s (λ is. omega (arith, three_after s _ (place s _ _ c.find.ensures c.unwrap_or-n.ensures) is)))

pub returns-then-not-in_form : goal.returns-then-not-in_form
returns-then-not-in_form c =
    let s = c.args.text.now in
    sym (no_cost s (λ is.
    let parts = cost_in_parts s _ (place s _ _ c.find.ensures c.unwrap_or-n.ensures) is in
    elim c.then-not-in_form.branch [
      | then-not-in_form-via-then-not-in_form w ↦ cc (parts.0)
      | then-not-in_form-via-else-not-in_form+then-not-all_digits w ↦ cc (parts.1)
    ]))

pub thousandths-requires-clause-four_before : goal.thousandths-requires-clause-four_before
thousandths-requires-clause-four_before c =
    let before = take c.unwrap_or-n.result c.args.text.now in
    let four : digits_form 4 before ≡ true = cc in
    let form = in-form 4 before four in
    (form.digits, form.at_most)

pub returns : goal.returns
returns c =
    let s = c.args.text.now in
    let n = c.unwrap_or-n.result in
    let first = place s _ _ c.find.ensures c.unwrap_or-n.ensures in
    let four : digits_form 4 (take n s) ≡ true = cc in
    let three : all_digits (behind s n first) ≡ true = cc in
    ap means c.thousandths.ensures ∙ sym (cost_from_parts s n first (omega arith) four three)
