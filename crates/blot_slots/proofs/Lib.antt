mod AnswerLemmas
mod FreshLemmas
mod PeerLemmas
pub mod SlotLemmas
mod WaitingLemmas
