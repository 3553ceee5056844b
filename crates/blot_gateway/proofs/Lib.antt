pub mod AtOnceLemmas
mod CallLemmas
mod DeliveredLemmas
mod Rows
mod RunLemmas
mod GreetingLemmas
mod LentLemmas
mod MemoryLemmas
mod KeptNumbersLemmas
mod SendingLemmas
pub mod ServingLemmas
mod StepLemmas
mod StoppingLemmas
