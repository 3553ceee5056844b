pub mod BookLemmas
pub mod PutLemmas
pub mod RowLemmas
pub mod StackLemmas
