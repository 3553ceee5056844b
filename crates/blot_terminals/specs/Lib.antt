pub mod Naming
pub mod Staff
