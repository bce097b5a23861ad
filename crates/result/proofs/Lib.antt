-- In order: bytes put one after another, and the room for them (`Putting`); the same of a place that moves behind them
-- (`Placing`); the result sheet by its parts; the writers' promises, refusal by refusal (`Refused`); a ledger's line by
-- its parts (`Ledger`); the promises leave one outcome.
--
-- Not here: the digits of a number (`Numbers` of the crate sheets), and how long a line and a result sheet are (its
-- `Lengths`); what a text over lent bytes is to the whole buffer (`Writing` of the crate scoring).
pub mod Putting
pub mod Placing
pub mod Parts
pub mod Refused
pub mod Ledger
pub mod Determined
