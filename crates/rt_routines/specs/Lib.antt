pub mod Code
pub mod Writing
