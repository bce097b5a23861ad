-- The word that `mark` sets is that of the page's flags, so that the words are those of the hit directory.
use Rattle.entries.proofs.Changes.{bit-set}
use Rattle.entries.proofs.lists.mark.Goals as goal

pub returns : goal.returns
returns c = search bit-set
