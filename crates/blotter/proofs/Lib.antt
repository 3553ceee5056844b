mod KeepingLemmas
mod RoundLemmas
mod SeatLemmas
mod ServingLemmas
