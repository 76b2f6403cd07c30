pub mod AskedOrderLemmas
pub mod TickCommandLemmas
pub mod ReplyLemmas
pub mod ConversationLemmas
