-- What a reader has to believe: the rules of section 11, from words to events.
pub mod Text
pub mod Lines
pub mod Commands
pub mod Replay
pub mod Events
