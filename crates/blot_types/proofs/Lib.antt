pub mod AcceptLemmas
pub mod AcceptOutLemmas
pub mod AllocOutLemmas
pub mod AllocStepLemmas
pub mod AllocationLawLemmas
mod AllocationRows
mod AmountLemmas
pub mod ApartLemmas
pub mod BetweenLemmas
pub mod BookedLemmas
pub mod BringLemmas
pub mod BuilderLemmas
pub mod BustLemmas
pub mod ChainLemmas
pub mod ChainOutLemmas
pub mod ChangeLemmas
pub mod CorrectLemmas
pub mod EntryLemmas
pub mod GeneralLemmas
pub mod InstructionLemmas
pub mod KeyLemmas
pub mod LawLemmas
pub mod LegalLemmas
pub mod LinkOutLemmas
pub mod LiveLemmas
pub mod NamedLemmas
pub mod NeedLemmas
pub mod NeededLemmas
pub mod OrderLemmas
pub mod PartLemmas
pub mod QuantityLemmas
mod Rows
pub mod StandLemmas
pub mod StayLemmas
pub mod SumLemmas
pub mod SurvivorLemmas
pub mod UnbustLemmas
pub mod UncorrectedLemmas
pub mod VersionLemmas
pub mod WithdrawLemmas
mod WithdrawalRows
