pub mod Lengths
pub mod Ident
pub mod Headers
pub mod Sound
pub mod Once
pub mod Fields
pub mod Written
