pub mod Walk
pub mod Reached
pub mod Multiple
pub mod Fits
pub mod Parsed
pub mod Named
pub mod Lowest
