-- Definitions that only contracts of private functions cite.
pub mod CheckpointSteps
pub mod LineParts
pub mod LoadSteps
pub mod Overwrites
pub mod Records
pub mod RecoverySteps
pub mod SnapshotRead
