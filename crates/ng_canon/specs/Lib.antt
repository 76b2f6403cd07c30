pub mod Outputs
pub mod Limits
pub mod Geometry
pub mod Printing
pub mod Pace
pub mod Plane
pub mod Quadrant
