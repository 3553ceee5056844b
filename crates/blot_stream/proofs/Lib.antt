pub mod PieceLemmas
pub mod ResultLemmas
