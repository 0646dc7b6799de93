pub mod Whole
pub mod Standing
pub mod Changes
pub mod Calls
pub mod Silent
