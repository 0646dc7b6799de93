pub mod Words
pub mod Effects
pub mod Bytes
pub mod Rows
pub mod Guarding
pub mod Kept
pub mod Places
pub mod Runs
pub mod Worked
mod Counted
mod Linked
mod Walked
mod Ahead
mod Knowing
mod Wellness
mod Steps
