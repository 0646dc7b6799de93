pub mod Told
pub mod Small
