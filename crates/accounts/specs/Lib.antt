-- The crate's definitions.
pub mod Accounts
