pub mod Schedule
pub mod Private
