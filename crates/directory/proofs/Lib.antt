-- In order: one request of sound words, by the ways through `serve`; the hit and the miss of the policy that they name;
-- the numbers of `fresh` and `check`; a request for every input; a run of sound words, request by request; a run for
-- every input. Then, by the promises alone: they allow one outcome, the hand moves of a run from a fresh directory, and
-- what an accepted call leaves.
-- Not here: that a request keeps a directory sound, and how many moves it takes (Kept and Moves of the crate laws); how
-- large a tally grows (the crate tally).
pub mod Serving
pub mod Named
pub mod Refused
pub mod Requesting
pub mod Replaying
pub mod Running
pub mod Determined
pub mod Bounded
pub mod Kept
