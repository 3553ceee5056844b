mod AroundLemmas
mod CellLemmas
pub mod ChainLemmas
pub mod HoldsLemmas
mod IndexLemmas
pub mod LiftLemmas
mod PlaceLemmas
pub mod RootedLemmas
pub mod StandingLemmas
