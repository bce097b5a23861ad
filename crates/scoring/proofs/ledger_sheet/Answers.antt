-- What score prints stands in the first 256 bytes, and the lines of the requests behind it.
use Rattle.scoring.proofs.Ledgering.{first_bytes, lent_part, requests_ready, sheet_ledgered}
use Rattle.scoring.proofs.ledger_sheet.Goals as goal

pub slice_bounds-score_sheet-end-2 : goal.slice_bounds-score_sheet-end-2
slice_bounds-score_sheet-end-2 c = search first_bytes

pub score_sheet-served-requires : goal.score_sheet-served-requires
score_sheet-served-requires c = search lent_part

pub put_requests-count-requires : goal.put_requests-count-requires
put_requests-count-requires c = rw c.unwrap_or-requests.ensures (search requests_ready)

pub returns : goal.returns
returns c = sheet_ledgered c.requires c.score_sheet-served.ensures c.score_sheet-served.auto.out (rw c.unwrap_or-requests.ensures at c.put_requests-count.ensures)
