-- One more word stands two places nearer; the two that stood first are then put last.
use Rattle.std.proofs.Common.{◌≡◌, ◌-◌, length, arith}
use Rattle.entries.proofs.Shifts.{moved_none, moved_more, moved_last}
use Rattle.entries.proofs.stretch.turn.Goals as goal

pub loop-i-init : goal.loop-i-init
loop-i-init c = record { within = omega arith; two_left = omega arith; turned = moved_none _ }

pub loop-i-preserved : goal.loop-i-preserved
loop-i-preserved c =
    let v = c.loop-i in
    record {
      within = omega arith;
      two_left = v.invariant.two_left;
      turned = rw v.invariant.turned (moved_more _ v.i (omega arith));
    }

pub returns : goal.returns
returns c =
    let l = c.args.s.now in
    let v = c.loop-i in
    let e : v.i ≡ length l - 2 = omega arith in
    rw (v.invariant.turned, e) (moved_last l (length l - 2) (omega arith))
