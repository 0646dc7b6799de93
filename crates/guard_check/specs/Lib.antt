pub mod Guard
pub mod Form
pub mod Straight
pub mod Checking
pub mod Counting
pub mod Steps
