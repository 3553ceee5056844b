-- What the file of a journal stands for, and what a crash may leave of it.
pub mod Calls
pub mod Device
pub mod File
pub mod Journal
pub mod Recovery
