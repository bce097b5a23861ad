-- In order: a test's value from what its truth would mean; the lists where they stand in the words; soundness by the
-- answers that is_sound asks for in turn.
-- Not here: that these tests say what a sound directory is (Soundness of the crate laws), and what a search of the
-- words tells (Reading and Searching of the crate entries).
pub mod Tests
pub mod Parts
pub mod Rules
