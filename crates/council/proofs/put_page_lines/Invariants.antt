-- Line by line: those of the pages up to here are put.
use Rattle.council.proofs.PageLines.{Midway}
use Rattle.council.proofs.put_page_lines.Given as goal

abbrev pub invariant-loop-page : goal.invariant-loop-page
invariant-loop-page l = Midway l.initial.place l.pages l.page-index l.place
