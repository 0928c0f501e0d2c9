pub mod Performs
pub mod Restores
pub mod Wrong
