pub mod Indexed
pub mod Places
pub mod Shown
pub mod Slots
pub mod Stack
