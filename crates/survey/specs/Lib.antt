-- The crate's definitions.
pub mod Index
pub mod Survey
pub mod Route
pub mod Clauses
pub mod Holders
pub mod Shares
