pub mod ShiftLemmas
pub mod WantedLemmas
