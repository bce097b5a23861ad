-- What a run learns of its tally.
-- Not here: what a tally is and how an answer is noted in it (specs/Note, and Run of the crate figures).
pub mod Tallies
