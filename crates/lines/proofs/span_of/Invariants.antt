-- Line `n` starts at `at`, so the line looked for is as many lines on as its number is more than `n`.
use Rattle.std.proofs.Common.{◌≡◌, ◌+◌, ◌-◌}
use Rattle.lines.proofs.Spans.{value_from}
use Rattle.lines.proofs.span_of.Given as goal

abbrev pub invariant-loop-n : goal.invariant-loop-n
invariant-loop-n l = value_from l.sheet 0 l.line ≡ value_from l.sheet l.at (l.line + 1 - l.n)
