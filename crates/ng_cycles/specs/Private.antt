-- What only contracts of private functions cite.
pub mod Counts
pub mod Inside
