-- Which pages were seen, as bits; what that says of the entries behind an entry.
pub mod Seen
pub mod Behind
