pub mod TreeWalkLemmas
pub mod SettleLemmas
