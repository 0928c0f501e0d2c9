-- The crate's definitions.
pub mod Items
pub mod Stream
pub mod Reading
pub mod Answers
pub mod Images
