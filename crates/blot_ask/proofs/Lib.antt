mod AheadLemmas
mod AskingLemmas
mod Rows
mod TypingLemmas
