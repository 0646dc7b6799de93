pub mod Addresses
pub mod Straight
pub mod Leaves
pub mod Saving
