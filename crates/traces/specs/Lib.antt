-- What a trace in the form of the Storage Performance Council comes to, as request 3 of 02 and the council's page
-- (SPC-FORMAT.md) have it: read in this order.
pub mod Fields
pub mod Record
pub mod Touch
pub mod Trace
pub mod Refusals
pub mod Examples
pub mod Demands
