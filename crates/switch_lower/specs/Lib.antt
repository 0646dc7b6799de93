pub mod Ways
pub mod Fresh
pub mod Tree
pub mod Bodies
pub mod Bound
