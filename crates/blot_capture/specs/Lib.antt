pub mod Capture
pub mod Handling
pub mod Replay
pub mod Sessions
pub mod Trace
