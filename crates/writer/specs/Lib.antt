pub mod Writes
pub mod Carving
pub mod Freeing
