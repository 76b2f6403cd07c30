-- What only contracts of private functions cite.
pub mod Items
pub mod Walks
