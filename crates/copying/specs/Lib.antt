-- What the contracts of this crate cite; what a copy is stands in `Copy` of the crate sheets.
pub mod Promises
