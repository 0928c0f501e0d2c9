-- The crate's definitions.
pub mod Parsing
pub mod Restoring
