pub mod Whole
pub mod Lines
pub mod Parts
