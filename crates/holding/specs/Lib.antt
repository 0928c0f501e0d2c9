-- The crate's definitions.
pub mod Claims
pub mod Emptying
pub mod Sweeping
