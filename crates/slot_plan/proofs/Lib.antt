pub mod InTurn
pub mod Bounds
pub mod Places
pub mod Taken
