-- The crate's laws.
pub mod Drops
pub mod Exchanged
pub mod Exchanges
pub mod Granted
pub mod Grants
pub mod Placed
pub mod Ready
pub mod ReallocateAnswers
pub mod Reallocated
pub mod ReleaseAnswers
pub mod Released
pub mod Releases
pub mod Sharing
pub mod Typed
