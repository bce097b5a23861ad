-- The tally of the code, and that it is the tally of figures.
pub mod Note
