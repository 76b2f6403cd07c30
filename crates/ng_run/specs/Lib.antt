pub mod Ending
pub mod Talks
pub mod Consoles
