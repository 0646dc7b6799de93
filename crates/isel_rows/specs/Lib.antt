pub mod Variables
pub mod Kept
pub mod Brought
pub mod Rows
pub mod Calls
pub mod Functions
pub mod Selected
pub mod Symbols
