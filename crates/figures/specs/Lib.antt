-- Document 01 with request 1 of 02, and Figures 2 and 3, as definitions: read in this order.
-- With the words of terms/specs, everything the code is proved to do is said here and nowhere else.
--
-- In order: an entry, and lists of entries; the directory as a value, and as words; the hand's moves, and the repeat
-- that they stand in; CAR; CART; FIFO, CLOCK and LRU; a row for each policy; when a directory is sound; one request;
-- a run; the four operations, with their refusals; the pages of a past by their last use (`Recency`); cases that are
-- shown by computation; what is promised of all this (`Demands`).
--
-- Not here: the limits, and the numbers of policies and refusals (terms/specs); the sheets (sheets/specs).
pub mod Entry
pub mod Directory
pub mod Words
pub mod Hand
pub mod Car
pub mod Cart
pub mod Classics
pub mod Policy
pub mod Sound
pub mod Request
pub mod Run
pub mod Refusals
pub mod Recency
pub mod Cases
pub mod Demands
