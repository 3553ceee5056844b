-- What the proofs of the functions share.
pub mod CalendarLemmas
pub mod ClockLemmas
pub mod DayLemmas
pub mod DigitLemmas
pub mod MomentLemmas
pub mod Rows
