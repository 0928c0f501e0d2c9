-- The crate's definitions.
pub mod Differences
pub mod Positions
pub mod Compare
pub mod Listing
pub mod Finding
