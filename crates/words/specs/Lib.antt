-- The crate's definitions.
pub mod Words
pub mod Emptying
pub mod Opening
pub mod Filling
pub mod Changing
