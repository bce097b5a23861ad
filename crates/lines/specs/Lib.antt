-- What the contracts of this crate cite.
pub mod Cursor
pub mod Stretch
