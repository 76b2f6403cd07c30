-- What only contracts of private functions cite.
pub mod Leaps
pub mod Sizes
pub mod Sweeps
