pub mod Present
pub mod Joined
pub mod Faults
