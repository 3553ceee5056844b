pub mod ActionLemmas
mod DeliveryLemmas
mod InTurnLemmas
mod NumberLemmas
pub mod OneLemmas
mod OwnLemmas
mod RowLemmas
mod Rows
mod BearingLemmas
mod RunLemmas
pub mod SendingLemmas
pub mod StateLemmas
pub mod ShortLemmas
pub mod HeaderLemmas
pub mod TextLemmas
