-- The rows that the definitions are held to, and laws of comparing.
pub mod Computing
pub mod Rows
pub mod Lists
pub mod Runs
pub mod Longest
pub mod Items
pub mod Differences
pub mod Positions
pub mod Answers
pub mod Found
pub mod Compared
pub mod Walking
