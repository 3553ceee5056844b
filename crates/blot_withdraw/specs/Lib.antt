pub mod Erasure
pub mod Withdrawing
