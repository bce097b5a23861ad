-- What score and ledger print for a sheet, what they answer and leave, and what the contracts of this crate cite.
pub mod Scored
pub mod Refusals
pub mod Promises
pub mod Ready
