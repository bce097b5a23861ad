-- By the promises for C alone: they allow one outcome, what an accepted call leaves, and the hand moves of a run from a
-- fresh directory.
pub mod Determined
pub mod Kept
pub mod Bounded
