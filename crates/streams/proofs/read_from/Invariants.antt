-- What came before each turn has been read so; what is left to read, or to be interrupted, falls.
use Rattle.std.proofs.Common.{length, take, ◌-◌, ◌+◌}
use Rattle.std.specs.Io.KnownBytes.{Consumes}
use Rattle.streams.proofs.Reading.{SoFar}
use Rattle.streams.proofs.read_from.Given as goal

abbrev pub invariant-loop-at : goal.invariant-loop-at
invariant-loop-at g l = record {
  so_far : SoFar l.fn.buf l.at l.buf;
  next : Consumes (g.R.Read.remaining l.fn.reader) (g.R.Read.remaining l.reader) (take l.at l.buf);
}

abbrev pub decreases-loop-at : goal.decreases-loop-at
decreases-loop-at g l = length l.buf - l.at + l.tries
