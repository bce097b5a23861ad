-- How the words of the trade are argued with.
--
-- In order: the examples of specs/Examples; what holds of a choice by a test (`by_test`, `by_tests`, `either`); numbers
-- in a row (`Rows`); the refusals by their numbers (`Numbers`); tests read as facts, and facts as tests (`simp reads`),
-- two tests that agree (`agree`); what holds of each policy holds of every known one (`by-policy`).
--
-- Not here: a single test read as a fact (`eqb-true`, `ltb-true`, `leb-false`, `borrow.Author.Tests`); what is proved
-- of each policy's row (laws/proofs/Lawful).
pub mod Examples
pub mod Choice
pub mod Rows
pub mod Numbers
pub mod Tests
pub mod ByPolicy
