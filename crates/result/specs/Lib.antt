-- What the contracts of this crate cite.
pub mod Put
pub mod Place
pub mod Parts
pub mod Ledger
pub mod Promises
