pub mod Translation
pub mod Laws
pub mod Writing
pub mod Standing
pub mod Emission
pub mod Outcome
pub mod Imaging
