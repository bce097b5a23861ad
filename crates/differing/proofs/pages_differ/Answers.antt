-- Behind the entry that is looked at all are seen, so what is told of its page holds.
use Rattle.std.proofs.Common.{◌≡◌, refl, sym, ◌∙◌, false, ◌+◌, ◌-◌, drop, arith}
use Rattle.figures.specs.Entry.{differ}
use Rattle.entries.proofs.Reading.{held, entry_at, told}
use Rattle.differing.proofs.Pages.{SeenFrom, seen_more, differ_from}
use Rattle.differing.proofs.pages_differ.Goals as goal

pub returns-then-stands_behind : goal.returns-then-stands_behind
returns-then-stands_behind c before after l is at many =
    let v = c.loop-i in
    let i = v.i - 1 in
    let one_back : i + 1 ≡ v.i = omega arith in
    let h = held before after is at in
    let behind : SeenFrom l (i + 1) v.noted = rw one_back (v.invariant.seen l h many) in
    let looked : differ (drop i l) ≡ false =
    rw c.if-stands_behind.true at (told h c.stands_behind.ensures refl many behind.all_noted) in
    sym (differ_from i l looked)

pub loop-i-preserved : goal.loop-i-preserved
loop-i-preserved c =
    let v = c.loop-i in
    let i = v.i - 1 in
    let one_back : i + 1 ≡ v.i = omega arith in
    let note = c.note.ensures in
    record {
      as_many = note.1.as_many ∙ v.invariant.as_many;
      seen = λ l h many.
          let behind : SeenFrom l (i + 1) v.noted = rw one_back (v.invariant.seen l h many) in
          let looked : differ (drop i l) ≡ differ (drop (i + 1) l) =
          rw c.if-stands_behind.false at (told h c.stands_behind.ensures refl many behind.all_noted) in
          seen_more (entry_at h i (omega arith)) behind looked note.0 (omega arith) note.1;
    }
