pub mod DigitSizeLemmas
pub mod CommandStartLemmas
pub mod BlankLemmas
pub mod LengthTextLemmas
pub mod FirstBlankLemmas
