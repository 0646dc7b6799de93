pub mod Arguments
pub mod Asked
pub mod Read
pub mod Shown
pub mod Words
