pub mod Fitting
pub mod Standing
pub mod Flow
pub mod Entries
pub mod Spots
pub mod Answers
