-- The line that the cursor finds is the one looked for, or is passed, and the line looked for is then one fewer on.
use Rattle.std.proofs.Common.{◌≡◌, ◌∙◌, refl, sym, ap, arith, suc, ◌+◌, ◌-◌}
use Rattle.lines.proofs.Cursor.{ClosedAt, closed_line, missing_line}
use Rattle.lines.proofs.Spans.{value_from, in_this_line, in_a_later_line, in_no_line, span_nowhere, looked_up}
use Rattle.lines.proofs.span_of.Goals as goal
use Rattle.lines.proofs.span_of.Goals.{In-Some}

-- The closed line that the cursor found.
closed : (c : In-Some) → ClosedAt c.args.sheet.now c.loop-n.at c.in-Some.end
closed c = closed_line _ _ _ (sym c.in-Some.ensures)

pub loop-n-init : goal.loop-n-init
loop-n-init c = let all : c.args.line ≡ c.args.line + 1 - 1 = omega arith in ap (value_from c.args.sheet.now 0) all

pub returns-in_default : goal.returns-in_default
returns-in_default c =
    let nowhere = c.loop-n.invariant ∙ in_no_line (missing_line _ _ (sym c.in_default.ensures)) (c.args.line + 1 - c.loop-n.n) in
    looked_up _ _ (omega arith) nowhere (span_nowhere _ refl)

pub returns-then-n-line : goal.returns-then-n-line
returns-then-n-line c =
    let line = closed (goal.at.returns-then-n-line c).In-Some in
    let last : c.args.line + 1 - c.loop-n.n ≡ 1 = omega arith in
    let here = c.loop-n.invariant ∙ ap (value_from _ c.loop-n.at) last ∙ in_this_line line in
    looked_up _ _ (omega arith) here c.value_in.ensures

pub loop-n-preserved : goal.loop-n-preserved
loop-n-preserved c =
    let s = c.args.sheet.now in
    let line = closed (goal.at.loop-n-preserved c).In-Some in
    let left = c.args.line - (c.loop-n.n + 1) in
    let more : c.args.line + 1 - c.loop-n.n ≡ suc (suc left) = omega arith in
    let fewer : suc left ≡ c.args.line + 1 - (c.loop-n.n + 1) = omega arith in
    c.loop-n.invariant
    ∙ ap (value_from s c.loop-n.at) more
    ∙ in_a_later_line line left
    ∙ ap (value_from s (c.in-Some.end + 1)) fewer

pub returns-else-sheet-gt-MOST_SHEET_BYTES : goal.returns-else-sheet-gt-MOST_SHEET_BYTES
returns-else-sheet-gt-MOST_SHEET_BYTES c =
    let none : c.args.line + 1 - c.loop-n.n ≡ 0 = omega arith in
    looked_up _ _ (omega arith) (c.loop-n.invariant ∙ ap (value_from _ c.loop-n.at) none) (span_nowhere _ refl)
