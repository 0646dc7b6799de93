pub mod Found
pub mod Fronts
pub mod Numbers
pub mod Quotes
pub mod Rows
pub mod Strings
pub mod Told
pub mod Few
