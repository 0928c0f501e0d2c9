-- The crate's definitions.
pub mod Words
pub mod Import
pub mod Export
pub mod Exact
