-- What the proofs of the functions share.
pub mod WordLemmas
pub mod FormLemmas
pub mod AllocateLemmas
pub mod TableLemmas
pub mod MakerLemmas
mod LineRows
