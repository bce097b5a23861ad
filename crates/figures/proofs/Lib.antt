-- The cases of specs/Cases and the example of specs/Recency, by computation.
--
-- Not here: what specs/Demands promises of the definitions (laws/proofs).
pub mod Cases
pub mod Recency
