pub mod Refusals
pub mod Layout
pub mod Headers
pub mod Rows
pub mod Cells
pub mod Instrs
pub mod Images
pub mod Heights
