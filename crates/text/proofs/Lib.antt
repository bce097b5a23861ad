-- In order: parts of bytes, from a place on and up to another (`from_place`, `part_length`), the library's
-- tests, a key in front, two texts (`same_text`); digits, read on from a place as a loop does, and what they are worth
-- (`Worth`); where a byte first stands, by the library's search (`Places`).
--
-- Not here: what a byte cuts off that separates others (`Places` of the crate sheets); the forms of a sheet's numbers
-- (its `Forms`) and of a trace's (the crate traces); laws of any lists (`lib.Seq`, `lib.ListN`).
pub mod Text
pub mod Worth
pub mod Places
