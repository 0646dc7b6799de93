pub mod Outcomes
pub mod Evaluated
