pub mod Typed
pub mod WellTyped
