-- In order: a line under its key, by the cursor's answer (`Keyed`); a line's answer, by its value (`Readings`); the
-- page lines, counted and written one after another (`Listing`); the sheet by its lines' answers, and the refusals
-- before them (`Reader`); the promises leave one outcome.
--
-- Not here: the cursor (`Cursor` of the crate lines); the page lines as they are defined, and that an accepted bid is
-- in range (`Pages` and `Bids` of the crate sheets); the forms of numbers (its `Forms`).
pub mod Keyed
pub mod Readings
pub mod Listing
pub mod Reader
pub mod Determined
