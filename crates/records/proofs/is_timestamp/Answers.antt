-- The point's place cuts the bytes into the two parts of the definition; where there is none, the second is empty.
use Rattle.std.proofs.Common.{◌≡◌, true, false, length, take, refl, sym, ◌∙◌}
use Rattle.traces.specs.Record.{is_integer}
use Rattle.records.proofs.Timestamps.{no_point, first_fails, second_decides}
use Rattle.records.proofs.is_timestamp.Goals as goal

pub returns-in_default : goal.returns-in_default
returns-in_default c = no_point c.args.text.now (length c.args.text.now) (sym c.in_default.ensures) refl

pub returns-then-is_integer : goal.returns-then-is_integer
returns-then-is_integer c =
    let s = c.args.text.now in
    let n = c.in-Some.n in
    let first : is_integer (take n s) ≡ true = cc in
    c.is_integer-then-is_integer.ensures ∙ second_decides s n c.in-Some.ensures.0 first

pub returns-else-is_integer : goal.returns-else-is_integer
returns-else-is_integer c =
    let s = c.args.text.now in
    let n = c.in-Some.n in
    let first : is_integer (take n s) ≡ false = cc in
    c.if-is_integer.false ∙ first_fails s n c.in-Some.ensures.0 first
