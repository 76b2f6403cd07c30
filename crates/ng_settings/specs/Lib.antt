pub mod KeyValues
pub mod Numbers
pub mod Causes
pub mod Given
pub mod Reading
pub mod Standard
