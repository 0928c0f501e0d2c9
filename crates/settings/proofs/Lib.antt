-- The rows that the definitions are held to, and laws of the settings.
pub mod Computing
pub mod Rows
pub mod Reading
pub mod Walks
pub mod Values
pub mod Stores
pub mod Puts
pub mod Added
pub mod Answers
pub mod Exact
pub mod Told
pub mod Folds
