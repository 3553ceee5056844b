mod BookLemmas
mod ListLemmas
mod PositionLemmas
