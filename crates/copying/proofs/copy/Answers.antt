-- Refusal by refusal, and then the sheet as it is or with the name put.
use Rattle.std.proofs.Common.{◌≡◌, true, false, arith}
use Rattle.std.proofs.lemmas.Result.{err_from_is_err_and}
use Rattle.sheets.specs.Copy.{blank_policy}
use Rattle.copying.proofs.Naming.{room_for_car}
use Rattle.copying.proofs.Copying.{not-copied, has_copy, room_for_sheet, short_buffer, answers_refusal, answers_copy}
use Rattle.copying.proofs.copy.Goals as goal

pub returns-then-out-lt-MOST_SHEET_BYTES : goal.returns-then-out-lt-MOST_SHEET_BYTES
returns-then-out-lt-MOST_SHEET_BYTES c = short_buffer _ _ _ (omega arith) c.at.ensures.refusal c.at.ensures.line

pub returns-in_err-judge : goal.returns-in_err-judge
returns-in_err-judge c =
    let p = err_from_is_err_and c.from_residual.result c.from_residual.ensures.1 in
    rw (p.1, p.2) (answers_refusal _ _ (omega arith) _ (not-copied _ c.from.ensures _ c.in_err-judge.ensures))

pub put_sheet-requires : goal.put_sheet-requires
put_sheet-requires c = room_for_sheet _ c.from.ensures _ c.in_ok-judge.ensures (omega arith)

pub returns-then-not-starts_with : goal.returns-then-not-starts_with
returns-then-not-starts_with c =
    let named : blank_policy c.args.sheet.now ≡ false = cc in
    let copied = (has_copy _ c.from.ensures _ c.in_ok-judge.ensures).named_copied named in
    answers_copy _ _ (omega arith) copied c.put_sheet.ensures

pub returns-then-sheet-gt-MOST_SHEET_BYTES : goal.returns-then-sheet-gt-MOST_SHEET_BYTES
returns-then-sheet-gt-MOST_SHEET_BYTES c =
    let blank : blank_policy c.args.sheet.now ≡ true = cc in
    let too_long = (has_copy _ c.from.ensures _ c.in_ok-judge.ensures).blank_too_long blank (omega arith) in
    answers_refusal _ _ (omega arith) _
    (rw (c.at-then-sheet-gt-MOST_SHEET_BYTES.ensures.refusal, c.at-then-sheet-gt-MOST_SHEET_BYTES.ensures.line) too_long)

pub put_with_car-requires : goal.put_with_car-requires
put_with_car-requires c =
    let blank : blank_policy c.args.sheet.now ≡ true = cc in room_for_car blank (omega arith) (omega arith)

pub returns : goal.returns
returns c =
    let blank : blank_policy c.args.sheet.now ≡ true = cc in
    let copied = (has_copy _ c.from.ensures _ c.in_ok-judge.ensures).blank_copied blank (omega arith) in
    answers_copy _ _ (omega arith) copied c.put_with_car.ensures
