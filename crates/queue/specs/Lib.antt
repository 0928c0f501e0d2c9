-- The crate's definitions.
pub mod Queue
pub mod Places
pub mod Results
pub mod Runs
pub mod Packets
pub mod Wrong
pub mod Stale
