-- What the contracts of CART's functions name beside the definitions of figures.
pub mod Passing
