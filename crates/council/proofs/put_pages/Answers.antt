-- One page more behind those that are put, the one that is stored here.
use Rattle.std.proofs.Common.{◌≡◌, ℕ, ◌+◌, ◌<◌, List, length, refl, arith}
use lib.ListN.{set}
use Rattle.terms.specs.Choice.{numbers_from}
use Rattle.terms.proofs.Rows.{numbers_more}
use Rattle.result.specs.Put.{Put}
use Rattle.result.proofs.Putting.{stored, both, put_as}
use Rattle.council.proofs.put_pages.Goals as goal

one_more : (first i : ℕ) {w w' : List ℕ} {at next behind : ℕ} → behind ≡ next + 1 → next < length w'
    → Put w at (numbers_from first i) w' next → Put w at (numbers_from first (i + 1)) (set w' next (first + i)) behind
one_more first i one inside put =
    rw one (put_as (numbers_more first i (first + i) refl) (both put (stored (record { fits = omega arith }))))

pub loop-i-preserved : goal.loop-i-preserved
loop-i-preserved c =
    let put = c.loop-i.invariant in one_more c.args.first c.loop-i.i (omega arith) (omega (arith, put.as_long)) put
