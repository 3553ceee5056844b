pub mod FillLemmas
mod HoldsLemmas
mod NumberLemmas
mod PlaceLemmas
mod PlacedLemmas
pub mod SlotLemmas
mod SumLemmas
mod TallyLemmas
