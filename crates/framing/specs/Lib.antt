-- The crate's definitions.
pub mod Frames
