pub mod Writing
pub mod Waiting
