pub mod AroundLemmas
pub mod FirstLemmas
pub mod MarkLemmas
mod NumberedLemmas
mod PointLemmas
pub mod SearchLemmas
pub mod ShownLemmas
pub mod SlotLemmas
