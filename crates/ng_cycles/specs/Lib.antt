pub mod Strokes
pub mod Canned
pub mod Segments
pub mod Left
pub mod Heights
pub mod Faults
pub mod Private
