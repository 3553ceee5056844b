pub mod CarryLemmas
pub mod CellLemmas
pub mod PositionLemmas
