mod ConnectionLemmas
mod ListingLemmas
mod PeerLemmas
mod SeatLemmas
mod SubmitLemmas
