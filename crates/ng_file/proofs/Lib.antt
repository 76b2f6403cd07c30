mod StoragePromiseLemmas
pub mod SectorLemmas
pub mod ReadingLemmas
pub mod RewriteLemmas
pub mod ZeroAppendLemmas
mod StopLemmas
pub mod HandOutLemmas
pub mod WeakPromiseLemmas
