pub mod Remainders
pub mod CellLaws
pub mod MemoryLaws
pub mod Fills
pub mod CopyLaws
