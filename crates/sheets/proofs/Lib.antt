-- What specs/Examples and specs/Demands state; and laws of the definitions that the crates over this one cite.
--
-- In order: the worked examples, by computation; where a byte first stands; the forms of numbers (`Forms`); the page
-- lines by the first of them; a sheet's lines by the first line feed; a sheet means a bid in range, or a refusal with a
-- number (`Bids`); numbers that are written are read back (`Numbers`); a result sheet has at most 256 bytes
-- (`Lengths`); what a blank policy meant and means, and that the copy of a filed sheet means what the sheet meant
-- (`Copies`).
--
-- Not here: parts of bytes, a key in front, digits (the crate text); the line at a place of the sheet (`Cursor` of the
-- crate lines); the cases of the code's answers (`Readings` and `Listing` of the crate bid).
pub mod Examples
pub mod Places
pub mod Forms
pub mod Pages
pub mod Lines
pub mod Bids
pub mod Numbers
pub mod Lengths
pub mod Copies
