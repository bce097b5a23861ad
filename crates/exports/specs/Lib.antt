-- What the functions for C promise, over the structs that C has.
pub mod Promises
pub mod Demands
