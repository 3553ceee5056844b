-- What the proofs of the functions share.
mod ByteLemmas
mod FieldLemmas
pub mod FieldTextLemmas
mod MatchLemmas
mod SizeLemmas
mod StepLemmas
mod SumLemmas
mod TagLemmas
mod OutcomeLemmas
pub mod FrameLemmas
pub mod WalkLemmas
pub mod PlaceLemmas
pub mod JoinedLemmas
pub mod WritingLemmas
mod FindLemmas
mod ReadingLemmas
mod Rows
