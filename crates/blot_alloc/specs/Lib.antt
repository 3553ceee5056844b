pub mod Allocs
pub mod Holds
pub mod Index
