pub mod Own
pub mod Passed
pub mod Program
pub mod Compiled
