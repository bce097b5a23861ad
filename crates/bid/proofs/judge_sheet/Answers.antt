-- Line after line: the first that is wrong decides, and after three good ones the page lines do.
use Rattle.std.proofs.Common.{ap, ◌∙◌, arith}
use Rattle.std.proofs.lemmas.Result.{err_from_is_err_and}
use Rattle.sheets.specs.Number.{means}
use Rattle.sheets.specs.Bid.{with_pages}
use Rattle.bid.proofs.Readings.{line_came}
use Rattle.bid.proofs.Reader.{line_decides, from_fourth, from_third, from_second, from_first, too-long}
use Rattle.bid.proofs.Reader.{by_second, by_third, by_pages, judged_bid}
use Rattle.bid.proofs.judge_sheet.Goals as goal

pub returns-then-sheet-gt-MOST_SHEET_BYTES : goal.returns-then-sheet-gt-MOST_SHEET_BYTES
returns-then-sheet-gt-MOST_SHEET_BYTES c =
    rw (c.at.ensures.refusal, c.at.ensures.line) (too-long _ c.args.sheet.now (omega arith))

pub returns-in_err-policy : goal.returns-in_err-policy
returns-in_err-policy c =
    let p = err_from_is_err_and c.from_residual.result c.from_residual.ensures.1 in
    let wrong = line_came 1 c.policy_line.ensures c.at_line.ensures c.in_err-policy.was in
    let first = from_first (means c.args.blank) c.args.sheet.now (omega arith) in
    rw (p.1, p.2) (first ∙ line_decides 1 from_second wrong)

pub returns-in_err-c : goal.returns-in_err-c
returns-in_err-c c =
    let p = err_from_is_err_and c.from_residual-in_err-c.result c.from_residual-in_err-c.ensures.1 in
    let good = line_came 1 c.policy_line.ensures c.at_line.ensures c.in_ok-policy.was in
    let wrong = line_came 2 c.size_line.ensures c.at_line-2.ensures c.in_err-c.was in
    rw (p.1, p.2) (by_second _ (omega arith) good ∙ line_decides 2 (from_third _) wrong)

pub returns-in_err-cost : goal.returns-in_err-cost
returns-in_err-cost c =
    let p = err_from_is_err_and c.from_residual-in_err-cost.result c.from_residual-in_err-cost.ensures.1 in
    let good = line_came 1 c.policy_line.ensures c.at_line.ensures c.in_ok-policy.was in
    let good₂ = line_came 2 c.size_line.ensures c.at_line-2.ensures c.in_ok-c.was in
    let wrong = line_came 3 c.cost_line.ensures c.at_line-3.ensures c.in_err-cost.was in
    rw (p.1, p.2) (by_third _ (omega arith) good good₂ ∙ line_decides 3 (from_fourth _ _) wrong)

pub returns-in_err-count : goal.returns-in_err-count
returns-in_err-count c =
    let p = err_from_is_err_and c.from_residual-in_err-count.result c.from_residual-in_err-count.ensures.1 in
    let good = line_came 1 c.policy_line.ensures c.at_line.ensures c.in_ok-policy.was in
    let good₂ = line_came 2 c.size_line.ensures c.at_line-2.ensures c.in_ok-c.was in
    let good₃ = line_came 3 c.cost_line.ensures c.at_line-3.ensures c.in_ok-cost.was in
    let lines = by_pages _ (omega arith) good good₂ good₃ in
    rw (p.1, p.2) (lines ∙ ap (with_pages _ _ _) c.in_err-count.ensures)

pub returns : goal.returns
returns c =
    let good = line_came 1 c.policy_line.ensures c.at_line.ensures c.in_ok-policy.was in
    let good₂ = line_came 2 c.size_line.ensures c.at_line-2.ensures c.in_ok-c.was in
    let good₃ = line_came 3 c.cost_line.ensures c.at_line-3.ensures c.in_ok-cost.was in
    judged_bid (by_pages _ (omega arith) good good₂ good₃) c.in_ok-count.ensures
