pub mod NewlineLemmas
pub mod PercentLemmas
pub mod FirstLineLemmas
pub mod PlaceLemmas
pub mod LinesBeforeLemmas
