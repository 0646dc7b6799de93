pub mod Names
pub mod Types
pub mod Values
pub mod Initialisers
pub mod Instructions
pub mod Terminators
pub mod Canonical
pub mod ReadsBack
