pub mod Past
pub mod Answers
