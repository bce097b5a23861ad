-- In order: a record that counts, by the code's tests, and the numbers that the code does not tell apart (`Counting`);
-- a line's answer by its record, and the trace by that answer (`Readings`); the lines one after the other, counted and
-- written (`Listing`); the answer by the trace, and the refusals before its lines (`Taking`); the page lines, put one
-- after another; what the program prints (`Printing`); the promises leave one outcome.
--
-- Not here: the cursor (`Cursor` of the crate lines); a line's fields and its record (the crate records); which pages a
-- record touches, and that they are in range (`Touched` and `Taken` of the crate traces).
pub mod Counting
pub mod Readings
pub mod Listing
pub mod Taking
pub mod PageLines
pub mod Printing
pub mod Determined
