pub mod Coloring
pub mod Fewest
pub mod Lists
pub mod Marks
pub mod Members
pub mod Steps
pub mod Wholes
