pub mod LastLemmas
