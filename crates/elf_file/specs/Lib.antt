pub mod Sound
pub mod Elf
pub mod Rules
