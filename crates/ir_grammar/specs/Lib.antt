pub mod Tokens
pub mod Brackets
pub mod Grammar
pub mod Parts
pub mod Reading
pub mod Texts
