mod DayLawLemmas
mod DayRows
mod HalfLemmas
mod KeyLemmas
mod ListLemmas
mod OrderLemmas
mod PartLemmas
mod PieceLemmas
mod RowLemmas
mod ShowLemmas
mod SortedLemmas
mod StandingLemmas
mod TextLemmas
mod WeightLemmas
pub mod WholeLemmas
