pub mod Computing
pub mod Rows
pub mod Decimals
pub mod Names
pub mod Reaching
pub mod Openings
pub mod Bounds
pub mod Histories
