pub mod RisingNumberLemmas
pub mod CallHistoryLemmas
