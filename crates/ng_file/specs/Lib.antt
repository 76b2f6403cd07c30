pub mod Bytes
pub mod Copying
pub mod Rig
pub mod Promise
pub mod Sectors
pub mod HandOuts
pub mod WeakPromise
