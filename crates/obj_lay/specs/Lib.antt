pub mod Held
pub mod Mirrors
pub mod Places
pub mod Putting
pub mod Hidden
