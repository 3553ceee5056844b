mod TestLemmas
mod FrameLemmas
mod PartyLemmas
pub mod TakingLemmas
mod WalkLemmas
mod OpeningLemmas
mod OperatorLemmas
mod ReceivedLemmas
mod RefusalLemmas
