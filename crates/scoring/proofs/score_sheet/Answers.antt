-- The reader's answer decides: a refusal written, or the bid scored.
use Rattle.scoring.proofs.Scoring.{refusal_written, refusal_scored, good_bid, sheet_scored}
use Rattle.scoring.proofs.score_sheet.Goals as goal

pub score_bid-requires : goal.score_bid-requires
score_bid-requires c = good_bid _ c.requires (rw c.in-Ok.is at c.read.ensures) c.read.auto.pages

pub returns-in-Ok : goal.returns-in-Ok
returns-in-Ok c = sheet_scored _ c.requires (rw c.in-Ok.is at c.read.ensures) c.score_bid.ensures

pub unwrap-count-requires : goal.unwrap-count-requires
unwrap-count-requires c =
    refusal_written _ c.requires (rw c.in-Err.is at c.read.ensures)
    (rw c.from-number.ensures at c.write_refusal.ensures)

pub returns-in-Err : goal.returns-in-Err
returns-in-Err c =
    refusal_scored _ c.requires (rw c.in-Err.is at c.read.ensures)
    (rw c.from-number.ensures at c.write_refusal.ensures) c.unwrap-count.ensures
