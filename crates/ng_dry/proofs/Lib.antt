pub mod OutcomeLemmas
pub mod RunLemmas
pub mod RunPartLemmas
pub mod CloseLemmas
