-- What the contracts of the soundness check's tests name beside the definitions of figures.
pub mod Orderly
