-- The crate's laws. The computed rows come first: they are checked before the laws that hold of every length.
pub mod Rows
pub mod Rounding
pub mod Editions
pub mod Zeros
pub mod ByZeros
