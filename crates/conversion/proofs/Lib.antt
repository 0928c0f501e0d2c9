-- Computed rows, and laws of moves: the lines, the code's steps, when a move is accepted, and that it keeps the state.
pub mod Rows
pub mod Lines
pub mod Steps
pub mod Accepted
pub mod Trips
