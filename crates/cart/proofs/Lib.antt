-- In order: a head demoted in the words, and the room that those of the passes have; the evict part from a full
-- directory; what trim leaves, and the room in it; a page placed, by where it was.
-- Not here: the looks, the passes and what they count, demotion and trim in any memory (the crate engine); where a head
-- stands in the words, and a page that comes back (Heads and ComingBack of the crate entries).
pub mod Words
pub mod Evicting
pub mod Trimming
pub mod Placed
