-- What a bid sheet means, what a result sheet says and what a copy is, as document 01's section "Sheets" and request 2
-- of 02 have it: read in this order.
pub mod Number
pub mod Lines
pub mod Bid
pub mod LookUp
pub mod Result
pub mod Copy
pub mod Refusals
pub mod Examples
pub mod Demands
