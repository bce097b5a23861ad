-- What specs/Examples and specs/Demands state; and laws of the definitions that the crates over this one cite.
--
-- In order: the examples, by computation; a line's fields by the first comma; the pages that a record touches are those
-- with a byte of it (`Touched`); a trace comes to pages in range, or to a refusal with a number (`Taken`); which traces
-- are taken (`Exactly`); the answer, 6 and 7 before the lines (`Answered`); page lines behind the first three lines of
-- a sheet are its trace (`PutTogether`).
--
-- Not here: digits (the crate text); a trace's lines by their line feeds (`Lines` of the crate sheets, `Cursor` of the
-- crate lines).
pub mod Examples
pub mod Fields
pub mod Touched
pub mod Taken
pub mod Exactly
pub mod Answered
pub mod PutTogether
