-- The crate's laws.
pub mod Joins
pub mod Rooms
pub mod Units
pub mod Lengths
pub mod Counts
pub mod Laws
pub mod Computed
