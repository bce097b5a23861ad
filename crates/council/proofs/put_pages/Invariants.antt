-- After i turns of the loop the first i of the pages are put.
use Rattle.std.proofs.Common.{◌+◌}
use Rattle.terms.specs.Choice.{numbers_from}
use Rattle.result.specs.Put.{Put}
use Rattle.council.proofs.put_pages.Given as goal

abbrev pub invariant-loop-i : goal.invariant-loop-i
invariant-loop-i l = Put l.fn.pages l.at (numbers_from l.first l.i) l.pages (l.at + l.i)
