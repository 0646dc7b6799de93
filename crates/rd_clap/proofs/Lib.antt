pub mod Commands
pub mod Known
pub mod Lines
pub mod Matches
pub mod Turns
pub mod Walks
pub mod Whole
