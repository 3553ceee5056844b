-- Moments and days, and what their texts say.
pub mod Calendar
pub mod Clock
pub mod Day
pub mod Digits
pub mod Results
pub mod FaultText
pub mod Moment
