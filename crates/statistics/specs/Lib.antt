-- The crate's definitions.
pub mod Statistics
pub mod Tallies
