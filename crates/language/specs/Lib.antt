pub mod Tree
pub mod Limits
pub mod Height
pub mod Names
