pub mod Causes
pub mod Held
pub mod Numbered
pub mod Outside
pub mod Streams
pub mod Told
