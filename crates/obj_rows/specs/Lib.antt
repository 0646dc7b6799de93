pub mod Marked
pub mod Standing
pub mod Assembled
pub mod Routines
pub mod Sound
