pub mod DeskLemmas
mod EntryLemmas
pub mod LookupLemmas
mod PeerLemmas
mod SessionLemmas
pub mod StreamLemmas
pub mod TraceLemmas
