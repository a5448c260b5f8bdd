pub mod Coding
pub mod Writing
pub mod Naming
pub mod Emitting
pub mod Imaging
pub mod Outcomes
