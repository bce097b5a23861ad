-- The buffer is asked before the sheet; its pages are written where the sheet is accepted.
use Rattle.std.proofs.Common.{arith}
use Rattle.std.proofs.lemmas.Result.{err_from_is_err_and}
use Rattle.bid.proofs.Reader.{pages_read, none_read, short_buffer}
use Rattle.bid.proofs.read.Goals as goal

pub returns-then-pages-lt-MOST_PAGES : goal.returns-then-pages-lt-MOST_PAGES
returns-then-pages-lt-MOST_PAGES c = short_buffer _ _ (omega arith) c.at.ensures.refusal c.at.ensures.line

pub returns-in_err-bid : goal.returns-in_err-bid
returns-in_err-bid c =
    let p = err_from_is_err_and c.from_residual.result c.from_residual.ensures.1 in
    rw (p.1, p.2) (none_read _ _ (omega arith) c.from.ensures _ c.in_err-bid.ensures)

pub returns : goal.returns
returns c = pages_read _ _ (omega arith) c.from.ensures c.in_ok-bid.ensures c.fill.ensures
