pub mod Actions
pub mod Entries
pub mod Exits
pub mod Phis
pub mod Programs
pub mod Reads
