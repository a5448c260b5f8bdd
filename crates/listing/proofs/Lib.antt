pub mod Heights
pub mod Passing
pub mod Collecting
