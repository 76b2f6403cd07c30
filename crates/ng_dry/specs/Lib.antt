pub mod Dry
pub mod Private
