-- Entry i counts for what its flags word says, and the later ones for the rest.
use Rattle.std.proofs.Common.{arith}
use Rattle.entries.proofs.Reading.{entry_at}
use Rattle.entries.proofs.Searching.{count_more}
use Rattle.entries.proofs.search.count.Goals as goal

pub loop-i-preserved : goal.loop-i-preserved
loop-i-preserved c =
    let v = c.loop-i in
    record {
      small = omega arith;
      counted = λ all h many.
          let e = entry_at h v.i (omega arith) in
          omega (arith, v.invariant.counted all h many, count_more e c.args.flag c.counts-sum.ensures.1);
    }
