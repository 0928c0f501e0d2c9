-- The crate's laws.
pub mod Rows
pub mod Listed
pub mod Lent
pub mod Claimable
