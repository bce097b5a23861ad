-- In order: a sheet put with the name behind its key (`Naming`); the copy by what the sheet meant when it was filed,
-- refusal by refusal (`Copying`); what the program prints (`Printing`); the promises leave one outcome.
--
-- Not here: that a copy means what the sheet meant (`Copies` of the crate sheets).
pub mod Naming
pub mod Copying
pub mod Printing
pub mod Determined
