pub mod Served
pub mod Acts
pub mod Steps
pub mod Changed
pub mod Pokes
