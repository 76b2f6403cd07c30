pub mod Calls
pub mod Exports
pub mod Shapes
