-- The crate's definitions.
pub mod Ready
pub mod Releasing
pub mod Asked
