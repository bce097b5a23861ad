-- At the place that the library answers stands the byte, and at none before.
use Rattle.std.proofs.Common.{rules}
use Rattle.text.proofs.Places.{FirstAt, first_found}
use Rattle.text.proofs.scan.find.Goals as goal

pub returns : goal.returns
returns c =
    let first : FirstAt c.args.byte c.args.text.now c.position.result = search rules in first_found _ _ _ first
