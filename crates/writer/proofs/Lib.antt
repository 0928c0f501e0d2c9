pub mod CarveBytes
pub mod FreeBytes
pub mod CopyBytes
pub mod Rooms
pub mod Writes
pub mod Guards
