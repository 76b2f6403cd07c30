pub mod Key
pub mod Name
pub mod Fault
pub mod Values
pub mod Given
pub mod Steps
pub mod Table
pub mod Reading
