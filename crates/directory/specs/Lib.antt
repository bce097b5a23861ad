-- What the public operations promise, and what the functions under them name.
pub mod Promises
pub mod Ready
pub mod Demands
