pub mod Number
pub mod Numeral
pub mod formers
