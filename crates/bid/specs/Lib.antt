-- What the contracts of this crate cite: the promises of judge and read,
-- and the cases of the answers by document 01's numbers and values.
pub mod Promises
pub mod Answers
