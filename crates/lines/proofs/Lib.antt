-- In order: what the cursor's answer says of the lines from its place on; where the value of a line stands, and the
-- look-up's span (`Spans`); the promises leave one outcome.
--
-- Not here: a sheet's lines by their line feeds (`Lines` of the crate sheets); parts of bytes (the crate text).
pub mod Cursor
pub mod Spans
pub mod Determined
