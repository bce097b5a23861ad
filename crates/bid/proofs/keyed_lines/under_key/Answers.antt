-- The closed line starts with the key, so that it is as long, and what is left of it is the value.
use Rattle.std.proofs.Common.{◌∙◌, ◌-◌, sym, arith, length, take, drop}
use Rattle.text.proofs.Text.{starts_fits}
use Rattle.sheets.proofs.Places.{bytes_from}
use Rattle.lines.proofs.Cursor.{closed_line}
use Rattle.bid.proofs.Keyed.{its_key}
use Rattle.bid.proofs.keyed_lines.under_key.Goals as goal

pub slice_bounds-result-count : goal.slice_bounds-result-count
slice_bounds-result-count c =
    omega (arith, starts_fits c.args.key.now _ (sym c.starts_with.ensures ∙ c.if-not-starts_with.false))

pub slice_bounds-result-start : goal.slice_bounds-result-start
slice_bounds-result-start c =
    omega (arith, starts_fits c.args.key.now _ (sym c.starts_with.ensures ∙ c.if-not-starts_with.false))

pub returns : goal.returns
returns c =
    let line = take (c.in-Some.end - c.args.at) (drop c.args.at c.args.sheet.now) in
    its_key (closed_line _ _ _ (sym c.in-Some.ensures)) (sym c.starts_with.ensures ∙ c.if-not-starts_with.false)
    (bytes_from line (length c.args.key.now))
