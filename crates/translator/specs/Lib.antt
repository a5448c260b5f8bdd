pub mod Weight
pub mod Tables
pub mod Verdict
pub mod Reading
pub mod InCells
