pub mod Marks
pub mod Seen
pub mod Rows
pub mod Firsts
pub mod Reached
pub mod Outer
pub mod Start
