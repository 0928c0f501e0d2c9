-- The crate's definitions.
pub mod Listing
pub mod Lending
pub mod Claimable
