pub mod NameLemmas
pub mod NumberLemmas
pub mod LengthLemmas
pub mod BoundLemmas
pub mod MachineLemmas
pub mod SettingCauseLemmas
