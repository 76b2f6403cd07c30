pub mod Waiting
pub mod Reading
pub mod Hearing
