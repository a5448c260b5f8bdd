pub mod Digit
pub mod Decoding
pub mod Splitting
pub mod Parsing
