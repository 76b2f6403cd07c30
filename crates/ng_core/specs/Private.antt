-- Definitions that only contracts of private functions cite.
pub mod NextLines
pub mod Ahead
pub mod Commits
