-- The stretch that `to_end` turns is T1 from the page on.
use Rattle.std.proofs.Common.{arith, refl}
use Rattle.classics.proofs.Renewing.{renewed_words}
use Rattle.classics.proofs.renew.Goals as goal

pub returns : goal.returns
returns c d x is here =
    renewed_words d x is c.requires.in_t1 here (omega arith) c.start_of-end.ensures refl c.to_end.ensures
