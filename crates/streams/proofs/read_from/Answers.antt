-- What came before each turn, and the read of that turn, are what came after it.
use Rattle.std.proofs.Common.{◌≤◌, ◌∙◌, ap, length, Ok, Err, arith}
use Rattle.std.proofs.KnownBytes.{Consumes-nil}
use Rattle.streams.proofs.Reading.{came_as, interrupted_as, begun, one_more, found_end, filled, read_at, next_more, next_kept}
use Rattle.streams.proofs.read_from.Goals as goal

pub loop-at-init : goal.loop-at-init
loop-at-init g c = record { so_far = begun _; next = Consumes-nil _ }

pub returns-in-Ok-Some-eq0-clause-handed : goal.returns-in-Ok-Some-eq0-clause-handed
returns-in-Ok-Some-eq0-clause-handed g c =
    found_end c.loop-at.invariant.so_far (read_at _ _ _ (Ok 0) (omega arith) c.read.auto.buf (omega arith))

pub loop-at-preserved-in-Ok-Some : goal.loop-at-preserved-in-Ok-Some
loop-at-preserved-in-Ok-Some g c =
    let n = c.in-Ok-Some.n in
    let came = came_as c.read.result c.told.ensures (c.in-Ok-Some.is ∙ ap Ok c.in-Ok-Some.field-0-is) in
    let fits : n ≤ length c.read.new.buf = (rw came at c.read.ensures.bound).0 in
    record {
      so_far = one_more c.loop-at.invariant.so_far (Ok n) (omega arith) (read_at _ _ _ (Ok n) (omega arith) c.read.auto.buf fits) (omega arith);
      next = next_more _ _ _ _ _ _ _ _ (omega arith) fits c.loop-at.invariant.next (rw came at c.read.ensures.bytes).0 (omega arith);
    }

pub loop-at-preserved : goal.loop-at-preserved
loop-at-preserved g c =
    let got = interrupted_as c.read.result c.told.ensures (c.in-Ok-None.is ∙ ap Ok c.in-Ok-None.field-0-is) in
    record {
      so_far = one_more c.loop-at.invariant.so_far (Err got.error) got.interrupted (read_at _ _ _ (Err got.error) (omega arith) c.read.auto.buf (omega arith)) (omega arith);
      next = next_kept _ _ _ _ _ _ _ (omega arith) c.loop-at.invariant.next (rw got.is at c.read.ensures.bytes);
    }

pub returns-clause-handed : goal.returns-clause-handed
returns-clause-handed g c = filled c.loop-at.invariant.so_far c.if-at-buf.false
