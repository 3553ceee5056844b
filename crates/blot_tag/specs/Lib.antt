-- Frames of FIX 4.4 and their fields.
pub mod Bytes
pub mod Sums
pub mod Results
pub mod Fields
pub mod FieldText
pub mod FaultText
pub mod Views
pub mod Frames
pub mod Writing
pub mod Looking
pub mod Finding
pub mod Walking
pub mod Joined
pub mod Places
pub mod Reading
pub mod Buffers
