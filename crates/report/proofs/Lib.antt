-- The rows that the definitions are held to, and laws of the report.
pub mod Computing
pub mod Rows
pub mod Answers
pub mod Hex
pub mod Words
pub mod Loops
pub mod Exports
pub mod Imports
pub mod Exact
pub mod Trips
pub mod Feeds
