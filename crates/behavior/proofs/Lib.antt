pub mod Laws
pub mod Between
pub mod Follow
pub mod Stretch
pub mod Worked
