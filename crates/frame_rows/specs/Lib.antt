pub mod Words
pub mod Code
pub mod Sizes
pub mod Ties
pub mod Steps
pub mod Bodies
