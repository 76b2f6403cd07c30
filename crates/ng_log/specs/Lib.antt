pub mod Writing
pub mod AtEnd
pub mod Reading
pub mod RecordChanges
pub mod Records
pub mod Runs
pub mod Private
