-- The entry at a, its page 0, goes to the end with flags 0: two zeros there, and the others two words nearer.
use Rattle.std.proofs.Common.{◌∷◌, ◌++◌}
use lib.Seq.{set_at}
use Rattle.entries.proofs.stretch.take_out.Goals as goal

pub returns : goal.returns
returns c P M R h f is p q = c.to_end.ensures P M R 0 f (rw is (set_at P h (f ∷ (M ++ R)) 0 _ p)) p q
