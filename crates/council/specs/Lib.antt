-- What the contracts of this crate cite: the promises of pages and answer,
-- and the cases of the answers by the numbers and pages of the definitions.
pub mod Promises
pub mod Answers
