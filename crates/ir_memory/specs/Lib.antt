pub mod Reads
pub mod Ranges
