-- What the contracts of the engine name beside the definitions of figures.
pub mod Holds
pub mod Flags
pub mod Stretches
pub mod Leaves
pub mod Targets
pub mod Returning
