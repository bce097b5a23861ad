-- What is searched is list i, from its start on and for its length.
use Rattle.std.proofs.Common.{arith, refl}
use Rattle.entries.proofs.Searching.{found_in}
use Rattle.entries.proofs.lists.find.Goals as goal

pub returns : goal.returns
returns c =
    found_in c.args.dir.now c.args.i (omega arith) c.args.page c.start_of-a.ensures refl c.find.result c.find.ensures
