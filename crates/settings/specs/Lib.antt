-- The crate's definitions.
pub mod Refusals
pub mod Entries
pub mod Find
pub mod Add
pub mod Exact
pub mod Walks
