-- Texts as bytes: quoted, in front of others, the same; digits; and where a byte first stands.
pub mod Text
pub mod Digits
pub mod Bytes
