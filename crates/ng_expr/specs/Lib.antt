pub mod Value
pub mod Settle
pub mod Private
