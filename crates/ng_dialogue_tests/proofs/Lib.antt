mod ByteWriteLemmas
mod CacheLemmas
