pub mod Keyed
pub mod Rules
pub mod Sums
