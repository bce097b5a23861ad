-- The bid's pages from a fresh directory, and the outcome written.
use Rattle.scoring.proofs.Scoring.{handed_written, bid_scored}
use Rattle.scoring.proofs.score_bid.Goals as goal

pub unwrap-count-requires : goal.unwrap-count-requires
unwrap-count-requires c = handed_written c.requires _ _ c.write.ensures

pub returns : goal.returns
returns c = search bid_scored
