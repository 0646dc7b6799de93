pub mod Numbers
pub mod Permuted
pub mod Worked
