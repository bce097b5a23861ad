-- The laws of the definitions: all that the crate figures states is proved here. Each statement's comment in its
-- specs/Demands names the file that proves it.
--
-- In order: what an entry counts for, and what a list does; a repeat that ends by itself; words and directories; what
-- soundness says in numbers (`Facts`), and that its test says just that; how a request goes, by its tests; what the
-- evict part and trim of the policies share (`Turns`); a hit, a new page and a page that comes back (`Placing`); CAR;
-- CART; FIFO, CLOCK and LRU (`Classics`); what is proved of a policy's row (`Laws`), and that all rows have it
-- (`Lawful`). Then of any row: every request leaves a sound directory (`Kept`), the evict part stops by itself
-- (`Stops`), the bounds of the hand moves (`Moves`), and that they are reached. Last, what T1 holds after an LRU run
-- (`Recency`).
--
-- Not here: choices by a test, tests read as facts, the policies one after another (terms/proofs); the cases P1 to P12
-- (figures/proofs); what holds of lent memory that shows a directory (engine/proofs).
pub mod Entries
pub mod Lists
pub mod Repeats
pub mod Encoding
pub mod Facts
pub mod Soundness
pub mod Requests
pub mod Turns
pub mod Placing
pub mod Car
pub mod Cart
pub mod Classics
pub mod Laws
pub mod Lawful
pub mod Kept
pub mod Stops
pub mod Moves
pub mod Reached
pub mod Recency
