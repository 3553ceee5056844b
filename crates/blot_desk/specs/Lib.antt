pub mod Desk
mod EarlyRefusal
pub mod Keeping
pub mod Makers
pub mod Marks
pub mod Questions
pub mod Receipts
pub mod Syncs
