-- The crate's laws.
pub mod Barred
pub mod ClaimAnswers
pub mod Claims
pub mod Cleared
pub mod Flagged
pub mod Emptied
pub mod FreedAll
pub mod SweptAll
pub mod Unquarantined
