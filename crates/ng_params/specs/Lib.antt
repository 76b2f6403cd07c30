pub mod Numbers
pub mod Params
pub mod Points
pub mod Lasting
pub mod Change
pub mod Differences
pub mod Assignments
