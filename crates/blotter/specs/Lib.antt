pub mod Rounds
pub mod Serving
pub mod Keeping
