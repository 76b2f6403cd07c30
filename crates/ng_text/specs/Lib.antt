pub mod Split
pub mod Percent
pub mod FirstLine
pub mod Programs
pub mod LinesBefore
