-- The refusals by their tests; the sheet has room, as it is at most 256 bytes long.
use Rattle.std.proofs.Common.{rules, ◌≡◌, true, arith}
use Rattle.terms.specs.Policies.{known_policy}
use Rattle.std.proofs.lemmas.Result.{err_from_is_err_and}
use Rattle.sheets.proofs.Lengths.{result_fits}
use Rattle.result.specs.Promises.{defined}
use Rattle.result.proofs.Refused.{numbered_known, sheet_policy, sheet_short, sheet_written}
use Rattle.result.proofs.write.Goals as goal

pub returns-in_err-try_from : goal.returns-in_err-try_from
returns-in_err-try_from c =
    let p = err_from_is_err_and c.from_residual.result c.from_residual.ensures.1 in
    rw (p.1, p.2, c.in_err-try_from.ensures.0) (sheet_policy _ _ c.in_err-try_from.ensures.1)

pub returns-then-out-lt-LEAST : goal.returns-then-out-lt-LEAST
returns-then-out-lt-LEAST c = search (sheet_short, numbered_known, arith)

pub put_sheet-requires : goal.put_sheet-requires
put_sheet-requires c = omega (arith, result_fits (defined c.args.outcome) (omega arith))

pub returns : goal.returns
returns c =
    let known : known_policy c.args.outcome.policy ≡ true = numbered_known _ c.in_ok-try_from.ensures in search (rules, sheet_written)
