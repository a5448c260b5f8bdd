pub mod Lines
pub mod Passes
pub mod Lists
pub mod Images
