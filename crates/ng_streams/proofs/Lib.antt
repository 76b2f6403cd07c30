pub mod KnownBytesLemmas
pub mod WaitingLemmas
