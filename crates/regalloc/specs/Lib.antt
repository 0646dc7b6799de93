pub mod Ranges
pub mod Occurs
pub mod Whole
pub mod Allocated
