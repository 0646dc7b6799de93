pub mod Access
pub mod Pages
pub mod Taking
pub mod Codes
