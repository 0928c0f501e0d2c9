-- The crate's definitions.
pub mod Rounding
