pub mod ChainStayLemmas
pub mod ErasureLemmas
pub mod InstructionStayLemmas
pub mod LegalStayLemmas
pub mod LineStayLemmas
mod Rows
pub mod RuleLemmas
pub mod SpareLemmas
pub mod Split
pub mod WithdrawLemmas
