-- In order: LRU's hit; CLOCK's hand, which leads on over set bits; the head that is then forgotten; the page placed.
-- Not here: what the evict part leaves of a directory, and that CLOCK's is FIFO's and LRU's where no bit is set
-- (Classics of the crate laws); where a head stands in the words (Heads of the crate entries).
pub mod Renewing
pub mod Passing
pub mod Forgetting
