-- What the proofs of the functions share.
pub mod IndexLemmas
pub mod WalkLemmas
pub mod AllocationLemmas
pub mod LineLemmas
pub mod LookLemmas
pub mod TableLemmas
pub mod GroupLemmas
pub mod CountLemmas
pub mod DecodingLemmas
pub mod SendingLemmas
