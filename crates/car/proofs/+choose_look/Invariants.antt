-- Each look at a set bit clears it: twice the set bits, and one more at the choice.
use Rattle.std.proofs.Common.{◌+◌, ◌*◌}
use Rattle.figures.specs.Entry.{bits}
use Rattle.figures.specs.Directory.{in_cache}
use Rattle.figures.specs.Words.{decode}
use Rattle.car.proofs.+choose_look.Given as goal

abbrev pub decreases-choose : goal.decreases-choose
decreases-choose l = 2 * in_cache bits (decode l.dir.now) + 1

abbrev pub decreases-look : goal.decreases-look
decreases-look l = 2 * in_cache bits (decode l.dir.now)
