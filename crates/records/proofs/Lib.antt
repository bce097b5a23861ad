-- In order: a timestamp by the place of its point; that an integer's bytes are digits.
--
-- Not here: a line's fields by the first comma (`Fields` of the crate traces); digits (the crate text).
pub mod Timestamps
pub mod Integers
