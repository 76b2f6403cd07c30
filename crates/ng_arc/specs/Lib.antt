pub mod Radii
pub mod Shape
pub mod Asked
pub mod Checking
pub mod Extremes
pub mod Private
