pub mod Asking
pub mod Dialogue
pub mod Lines
pub mod OpenDay
pub mod Operating
pub mod Seats
