-- What the proofs of the functions share.
pub mod SizeLemmas
pub mod ValueLemmas
pub mod MeaningLemmas
pub mod ZeroLemmas
pub mod ReadLemmas
pub mod PrintLemmas
pub mod ShortestLemmas
pub mod Rows
