-- Reads one after another, and that what they put stands in front as each put it (`Reading`).
--
-- Not here: what a call of the system promises (the library's `Read`).
pub mod Reading
