pub mod Hex
pub mod Lines
pub mod Commands
pub mod Texts
