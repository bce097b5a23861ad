-- The laws of the list engine's words: what a directory's words are, what is read in them, and what each leaf leaves.
--
-- In order: a stretch of words while it is turned or a word is put in (`Shifts`); the words at which the lists start
-- (`Starts`); the words in parts, whichever list is changed (`Laid`); an entry moved among the listed ones (`Moving`);
-- where a page stands in a list (`Indexes`); what each leaf of lists.rt leaves (`Changes`); entries read in the words
-- (`Reading`), searched and counted (`Searching`); words that are at most m (`Bounds`); the head of a list (`Heads`);
-- room in the words (`Rooms`); a page that comes back (`ComingBack`).
--
-- Not here: that words decode to the directory that they encode, and the lengths of lists (Encoding and Lists of the
-- crate laws); looks, passes and trims, which are of any engine (the crate engine); CAR's and CART's own (car, cart).
pub mod Shifts
pub mod Starts
pub mod Laid
pub mod Moving
pub mod Indexes
pub mod Changes
pub mod Reading
pub mod Searching
pub mod Bounds
pub mod Heads
pub mod Rooms
pub mod ComingBack
