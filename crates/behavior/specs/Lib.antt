pub mod Ending
pub mod Moment
pub mod Preserves
pub mod System
pub mod Simulation
