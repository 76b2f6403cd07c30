pub mod ClearLemmas
pub mod ChangeLemmas
pub mod OneParameterLemmas
pub mod AssignmentLemmas
pub mod DifferenceLemmas
pub mod SettlingLemmas
