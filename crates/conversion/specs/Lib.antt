-- The crate's definitions.
pub mod Moves
pub mod Steps
