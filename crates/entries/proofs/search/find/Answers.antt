-- Entry i is the page's, so that the index behind i is 0; or it is another's, and the index is one more.
use Rattle.std.proofs.Common.{◌≡◌, arith}
use Rattle.entries.specs.Stretches.{index}
use Rattle.entries.proofs.Reading.{Held, held, entry_at}
use Rattle.entries.proofs.Searching.{index_here, index_later}
use Rattle.entries.proofs.Indexes.{index_has, index_lacks}
use Rattle.entries.proofs.search.find.Goals as goal

pub returns-then-dir-a : goal.returns-then-dir-a
returns-then-dir-a c =
    let v = c.loop-i in
    let page = c.args.page in (
      omega arith,
      λ before after all is at many.
          let h : Held c.args.dir.now c.args.a all = held before after is at in
          let here = index_here (entry_at h v.i (omega arith)) page c.if-dir-a.true in
          let place : v.i ≡ index page all = omega (arith, v.invariant all h many, here) in
          (index_has page all (omega arith), place),
    )

pub loop-i-preserved : goal.loop-i-preserved
loop-i-preserved c all h many =
    let v = c.loop-i in
    let later = index_later (entry_at h v.i (omega arith)) c.args.page c.if-dir-a.false in
    omega (arith, v.invariant all h many, later)

pub returns : goal.returns
returns c before after all is at many =
    let v = c.loop-i in
    index_lacks c.args.page all (omega (arith, v.invariant all (held before after is at) many))
