pub mod Fits
pub mod Texts
pub mod Spellings
pub mod Faults
