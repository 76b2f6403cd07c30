pub mod StreamLemmas
pub mod ScheduleRunLemmas
pub mod EndedLineLemmas
pub mod RunStepLemmas
pub mod FinishLemmas
