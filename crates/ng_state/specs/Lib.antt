pub mod Fresh
pub mod KeptWords
pub mod State
