pub mod Calls
pub mod Running
