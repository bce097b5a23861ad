-- The run that document 01 gives to reproduce, and its ledger, by computation.
use mathlib.Core.Path.{refl}
use Rattle.figures.specs.Directory.{place_new}
use Rattle.figures.specs.Hand.{repeat}
use Rattle.figures.specs.Car as Car
use Rattle.figures.specs.Request.{missed, serve}
use Rattle.figures.specs.Run.{run_from}
use Rattle.text.specs.Bytes.{index_of}
use Rattle.sheets.specs.Number.{digits_form, whole, miss_cost}
use Rattle.sheets.specs.Bid.{policy_line, size_line, cost_line, page_line, in_order, meaning_where}
use Rattle.sheets.specs.Result.{decimal, milliseconds, result_sheet}
use Rattle.result.specs.Ledger.{request_line}
use Rattle.scoring.specs.Scored.{printed, scored, ledger_lines, request_lines, ledgered}
use Rattle.scoring.specs.Scored.{RunToReproduce, WorkedLedger}

both : RunToReproduce × WorkedLedger
unfolding place_new run_from serve missed repeat Car.evict Car.trim Car.place_b1 Car.place_b2
    digits_form whole miss_cost policy_line size_line cost_line page_line in_order meaning_where index_of
    decimal milliseconds result_sheet request_line printed scored ledger_lines request_lines ledgered
both = (refl, refl)

pub run_to_reproduce : RunToReproduce
run_to_reproduce = both.0

pub worked_ledger : WorkedLedger
worked_ledger = both.1
