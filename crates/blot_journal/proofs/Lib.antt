mod BatchLemmas
mod BatchesLemmas
mod CallRows
mod HeadLemmas
mod JournalLemmas
mod MomentLemmas
mod RecoveryLemmas
mod WriteLemmas
