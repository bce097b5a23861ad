-- The buffer is asked first, then the trace's length; its pages are written where all its lines are good.
use Rattle.std.proofs.Common.{arith}
use Rattle.std.proofs.lemmas.Result.{err_from_is_err_and}
use Rattle.council.proofs.Taking.{short_buffer, too-long, line_refused, pages_taken}
use Rattle.council.proofs.pages.Goals as goal

pub returns-then-pages-lt-MOST_PAGES : goal.returns-then-pages-lt-MOST_PAGES
returns-then-pages-lt-MOST_PAGES c = short_buffer _ _ _ (omega arith) c.at.ensures.refusal c.at.ensures.line

pub returns-then-file-gt-MOST_TRACE_BYTES : goal.returns-then-file-gt-MOST_TRACE_BYTES
returns-then-file-gt-MOST_TRACE_BYTES c =
    let at = c.at-then-file-gt-MOST_TRACE_BYTES.ensures in
    too-long _ _ _ (omega arith) (omega arith) at.refusal at.line

pub returns-in_err-count : goal.returns-in_err-count
returns-in_err-count c =
    let p = err_from_is_err_and c.from_residual.result c.from_residual.ensures.1 in
    rw (p.1, p.2) (line_refused _ _ _ (omega arith) (omega arith) c.in_err-count.field-0.0 c.in_err-count.ensures)

pub returns : goal.returns
returns c = pages_taken _ _ _ (omega arith) (omega arith) c.in_ok-count.ensures c.fill.ensures
