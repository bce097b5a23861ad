-- What `put_in` puts in behind list t pushes entry k of list b out, which is the page's, and what is between moves up.
use Rattle.std.proofs.Common.{arith}
use Rattle.entries.proofs.Changes.{page_to_tail}
use Rattle.entries.proofs.lists.come_back.Goals as goal

pub returns : goal.returns
returns c d e' is here page new =
    let h = c.requires.from_history in
    page_to_tail d e' h.0 h.1 h.2 is h.3 here page new c.start_of-a.ensures (omega arith) c.put_in.ensures
