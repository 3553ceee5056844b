pub mod Answers
pub mod Asking
pub mod Lines
pub mod Typed
pub mod Typing
