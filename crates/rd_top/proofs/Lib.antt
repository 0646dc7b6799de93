pub mod Alike
pub mod ByCommand
mod Evaluated
mod Guarded
mod Invalid
mod Made
pub mod Runs
pub mod Told
pub mod Watched
