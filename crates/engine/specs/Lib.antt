-- What an engine's memory shows of the values of figures, and what its answers tell.
--
-- In order: of any hand and any request; of the head of a list; of CART's passes; of CAR's choosing.
--
-- Not here: how the words of a directory show it (entries/specs).
pub mod Shown
pub mod Heads
pub mod Passes
pub mod Choosing
