pub mod Ledger
pub mod History
pub mod Demand3
pub mod Same
pub mod Wrong
pub mod Contents
