pub mod Failure
pub mod Running
