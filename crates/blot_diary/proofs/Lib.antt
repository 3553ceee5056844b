pub mod AskLemmas
pub mod FoldLemmas
pub mod KeptLemmas
mod OneLemmas
mod DiaryLemmas
mod FramingLemmas
mod PlainLemmas
mod WritingLemmas
mod ShortLemmas
mod HeaderLemmas
mod RecordLemmas
mod Rows
