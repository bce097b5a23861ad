-- In order: a bit set in a word and kept in it (`Bits`); a page told from those that were noted, and pages that differ
-- from an entry on (`Pages`).
--
-- Not here: what the words of a list hold, and where a page stands in it (`Reading` and `Indexes` of the crate
-- entries); shifts and the bits of a sum (`lib.Pow` and `lib.Bits` of the kit).
pub mod Bits
pub mod Pages
