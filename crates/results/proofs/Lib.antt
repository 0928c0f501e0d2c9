-- The crate's laws.
pub mod Results
pub mod Amounts
pub mod Lines
pub mod Records
pub mod Lookups
