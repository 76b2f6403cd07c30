pub mod BufferLemmas
pub mod ReaderBytesLemmas
pub mod HeardOrderLemmas
pub mod LineWriteLemmas
