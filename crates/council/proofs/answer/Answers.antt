-- The lent memory is asked first; then the pages are printed, or the refusal.
use Rattle.std.proofs.Common.{sym, arith}
use lib.Seq.{length-take-le}
use Rattle.council.proofs.Printing.{few_words, few_bytes, accepted, pages_printed, refusal_printed}
use Rattle.council.proofs.answer.Goals as goal
use Rattle.council.proofs.answer.Goals.{then-buffer-lt-MOST_PAGES-via-then-buffer-lt-MOST_PAGES}
use Rattle.council.proofs.answer.Goals.{then-buffer-lt-MOST_PAGES-via-else-buffer-lt-MOST_PAGES+then-out-lt-LISTING}

pub returns-then-buffer-lt-MOST_PAGES : goal.returns-then-buffer-lt-MOST_PAGES
returns-then-buffer-lt-MOST_PAGES c =
    elim c.then-buffer-lt-MOST_PAGES.branch [
      | then-buffer-lt-MOST_PAGES-via-then-buffer-lt-MOST_PAGES w ↦ few_words _ _ _ _ (omega arith)
      | then-buffer-lt-MOST_PAGES-via-else-buffer-lt-MOST_PAGES+then-out-lt-LISTING w ↦ few_bytes _ _ _ _ (omega arith) (omega arith)
    ]

pub slice_bounds-put_page_lines-end : goal.slice_bounds-put_page_lines-end
slice_bounds-put_page_lines-end c = (accepted _ _ _ c.args.out.now (omega arith) c.in-Ok.ensures).inside

pub slice_bounds-put_page_lines-end-in-Ok : goal.slice_bounds-put_page_lines-end-in-Ok
slice_bounds-put_page_lines-end-in-Ok c =
    sym (length-take-le _ _ (accepted _ _ _ c.args.out.now (omega arith) c.in-Ok.ensures).inside)

pub put_page_lines-requires : goal.put_page_lines-requires
put_page_lines-requires c =
    let front = accepted _ _ _ c.args.out.now (omega arith) c.in-Ok.ensures in
    omega (arith, length-take-le c.in-Ok.count c.pages.new.pages front.inside, front.at_most)

pub returns-in-Ok : goal.returns-in-Ok
returns-in-Ok c =
    pages_printed _ _ _ _ (omega arith) c.in-Ok.ensures (omega arith) c.put_page_lines.ensures

pub returns-in-Err : goal.returns-in-Err
returns-in-Err c =
    refusal_printed _ _ _ _ (omega arith) c.in-Err.ensures (omega arith) c.into.ensures c.write_refusal.ensures
