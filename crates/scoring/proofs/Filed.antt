-- A sheet filed before request 2 of 02 is scored as it was then, by its copy.
use mathlib.Core.Path.{◌≡◌, ap, ◌∙◌}
use mathlib.Core.List.{◌++◌}
use Rattle.sheets.specs.Bid.{meaning, filed_meaning}
use Rattle.sheets.specs.Copy.{printed_copy, copied}
use Rattle.sheets.proofs.Copies.{copy_means_the_same}
use Rattle.scoring.specs.Scored.{printed, scored, request_lines, ledgered, OldLinesReproduced}

pub old_lines_reproduced : OldLinesReproduced
unfolding copied scored ledgered
old_lines_reproduced sheet t is =
    let same : meaning (copied sheet) ≡ filed_meaning sheet
    = ap (λ c. meaning (printed_copy c)) is ∙ copy_means_the_same sheet t is in
    record { score_again = ap printed same; ledger_again = ap (λ m. printed m ++ request_lines m) same }
