pub mod HolderLemmas
mod HoldsLemmas
pub mod NeedLemmas
mod RootLemmas
