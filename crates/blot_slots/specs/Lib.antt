pub mod FaultText
pub mod Slots
