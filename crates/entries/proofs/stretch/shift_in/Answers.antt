-- One more word stands where the shift leaves it; the last two are those that are put in.
use Rattle.std.proofs.Common.{◌≡◌, ◌+◌, ◌-◌, arith, sym}
use lib.Seq.{length-take-le}
use Rattle.entries.proofs.Shifts.{over_all, shifted_more, shifted_last}
use Rattle.entries.proofs.stretch.shift_in.Goals as goal

pub loop-i-init : goal.loop-i-init
loop-i-init c = record {
  from_two = omega arith;
  within = omega arith;
  halves = over_all _ _ (sym (length-take-le _ _ (omega arith)));
}

pub loop-i-preserved : goal.loop-i-preserved
loop-i-preserved c =
    let s = c.args in
    let v = c.loop-i in
    let i = v.i - 1 in
    let one_back : v.i ≡ i + 1 = omega arith in
    record {
      from_two = omega arith;
      within = omega arith;
      halves = cc (v.invariant.halves, one_back, shifted_more s.page s.flags s.s.now i (omega arith) (omega arith));
    }

pub returns : goal.returns
returns c =
    let v = c.loop-i in
    let two : v.i ≡ 2 = omega arith in
    rw (v.invariant.halves, two) (shifted_last _ _ _ (omega arith))
