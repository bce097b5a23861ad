-- In order: a run from a fresh directory is accepted; what the reader's answer says of the sheet (`Reading`); what the
-- writers leave of lent bytes (`Writing`); a bid and a sheet scored (`Scoring`); a ledger's lines, put one after
-- another (`Lines`), and a sheet's ledger (`Ledgering`); whether the lent memory is enough (`Lending`); the run to
-- reproduce, by computation (`Worked`); a sheet filed before request 2 by its copy; the promises leave one outcome.
--
-- Not here: bytes put one after another (`Putting` of the crate result); that an accepted bid is in range (`Bids` of
-- the crate sheets); that a fresh directory is sound (`Kept` of the crate laws).
pub mod Fresh
pub mod Reading
pub mod Writing
pub mod Scoring
pub mod Lines
pub mod Ledgering
pub mod Lending
pub mod Worked
pub mod Filed
pub mod Determined
