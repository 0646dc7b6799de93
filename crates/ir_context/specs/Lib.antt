pub mod Registers
pub mod Extents
pub mod Paths
pub mod Origins
pub mod Reads
pub mod Small
pub mod Laws
