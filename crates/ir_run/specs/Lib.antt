pub mod Turns
pub mod Answers
pub mod Strides
pub mod Standing
pub mod Agreement
pub mod Runs
pub mod Starts
