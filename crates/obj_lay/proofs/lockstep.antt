pub mod Segments
pub mod Starts
pub mod Rules
pub mod Closed
pub mod Natural
pub mod Fetching
pub mod Lockstep
pub mod Images
