-- Two lines of at most 19 and 16 bytes, one after the other.
use Rattle.std.proofs.Common.{rules, ◌+◌, ◌≤◌, ◌<◌, ◌^◌, ℕ, arith}
use Rattle.terms.specs.Choice.{∣◌∣}
use Rattle.text.specs.Text.{bytes}
use Rattle.sheets.specs.Result.{decimal, line_of}
use Rattle.sheets.proofs.Lengths.{count_length}
use Rattle.result.proofs.Parts.{refused_put}
use Rattle.result.proofs.Refused.{text_written}
use Rattle.result.proofs.write_refusal.Goals as goal

both_fit : (number line : ℕ) → number < 2 ^ 32 → line < 2 ^ 32
    → ∣ line_of (bytes "refused=") (decimal number) ∣ + ∣ line_of (bytes "line=") (decimal line) ∣ ≤ 35
both_fit number line number_is line_is =
    omega (arith, count_length (bytes "refused=") number number_is, count_length (bytes "line=") line line_is)

pub put_line-requires : goal.put_line-requires
put_line-requires c = omega (arith, both_fit c.args.number c.args.line (omega arith) (omega arith))

pub put_line-requires-2 : goal.put_line-requires-2
put_line-requires-2 c = omega (arith, both_fit c.args.number c.args.line (omega arith) (omega arith))

pub returns : goal.returns
returns c =
    let put = refused_put c.args.number c.args.line c.put_line.ensures c.put_line-2.ensures in
    search (rules, text_written)
