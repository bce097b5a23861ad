-- Laws that serve every engine: how memory shows a directory is a parameter, or the law says which one it is to show.
--
-- In order: a page placed after the evict part; the head of a list; CAR's choice and looks, and its trim; CART's
-- accounts, its looks, its two passes, and its trim.
--
-- Not here: what the definitions' evict part and trim leave of a directory (laws/proofs); how words show a directory
-- (entries/proofs); the functions' own proofs (car/proofs, cart/proofs).
pub mod Placed
pub mod Heads
pub mod Choosing
pub mod CarTrim
pub mod Accounts
pub mod Looks
pub mod Passes
pub mod CartTrim
