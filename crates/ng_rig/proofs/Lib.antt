pub mod TraceLemmas
pub mod ContinuationLemmas
pub mod LaterStopLemmas
pub mod GuaranteeLemmas
pub mod ReachableStopLemmas
pub mod ReplayLemmas
pub mod WritesOnlyLemmas
