pub mod DigitLemmas
pub mod ByteLemmas
pub mod MillionthLemmas
pub mod SignedNumberLemmas
pub mod ItemLineLemmas
