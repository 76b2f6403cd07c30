pub mod NameLemmas
pub mod ItemLemmas
pub mod FitLemmas
