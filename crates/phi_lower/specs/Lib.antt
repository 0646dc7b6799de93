pub mod Entries
pub mod Lowered
pub mod Bound
