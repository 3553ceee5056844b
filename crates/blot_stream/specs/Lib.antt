pub mod Outcome
pub mod Texts
