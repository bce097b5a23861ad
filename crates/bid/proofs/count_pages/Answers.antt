-- A line that is wrong decides; a good one counts one page more.
use Rattle.std.proofs.Common.{◌+◌, ◌∙◌, sym, ap, arith}
use Rattle.std.proofs.lemmas.Result.{err_from_is_err_and}
use Rattle.terms.specs.Refusals.{number_of}
use Rattle.sheets.specs.Bid.{refused_at}
use Rattle.bid.proofs.Readings.{line_came}
use Rattle.bid.proofs.Listing.{page_read, page_wrong, none_read, one_more_read, wrong_read, all_counted}
use Rattle.bid.proofs.count_pages.Goals as goal

pub loop-at-init : goal.loop-at-init
loop-at-init c = record { few = omega arith; read = none_read _ _ }

pub returns-in_err-next : goal.returns-in_err-next
returns-in_err-next c =
    let v = c.loop-at in
    let p = err_from_is_err_and c.from_residual.result c.from_residual.ensures.1 in
    let wrong = line_came (v.count + 4) c.page_line-page.ensures c.at_line.ensures c.in_err-next.was in
    rw (p.1, p.2) (wrong_read v.invariant.read
    (page_wrong v.count c.loop-at-test.true wrong.reads ∙ ap (refused_at (number_of c.in_err-next.field-0.0.refusal)) (sym wrong.line_is)))

pub loop-at-preserved : goal.loop-at-preserved
loop-at-preserved c =
    let v = c.loop-at in
    let good = line_came (v.count + 4) c.page_line-page.ensures c.at_line.ensures c.in_ok-next.was in
    let h = page_read v.count good.reads in
    record { few = omega (arith, h.one-of-thousand); read = one_more_read v.invariant.read h }

pub returns : goal.returns
returns c = all_counted c.loop-at.invariant.read c.loop-at-test.false
