-- The table of the listed peers: the session and the seat of each.
use Rattle.std.specs.Prelude.{◌≡◌, ℕ, List, All, Option, None, Some, IfSome, Result, Ok, Err}
use Rattle.std.specs.Map.{lookup, set_value}
use Rattle.blot_types.specs.Keys.{same_text}
use Rattle.blot_session.specs.declared.state.State.{State}
use Rattle.blot_slots.specs.Slots.{Slots}
use Rattle.blot_slots.specs.declared.slot_fault.SlotFault.{SlotFault}
use Rattle.blot_slots.specs.declared.slot_fault.SlotFault.TheVariants as faults
use Rattle.blot_lanes.specs.declared.peers.Peer.{Peer}
use Rattle.blot_lanes.specs.Seats.{Seated}

-- the sessions, and what stands under the name of each peer
pub record Seating (L : Type 0) : Type 0 where
  pub sessions : Slots
  pub peers : List (List ℕ × Peer L)

-- the seat of a peer, where the peer is listed and its seat is in
abbrev pub seat_in : {L : Type 0} → Option (Peer L) → Option Seated
seat_in None = None
seat_in (Some peer) = peer.seat

abbrev pub seat_of : {L : Type 0} → List ℕ → List (List ℕ × Peer L) → Option Seated
seat_of peer peers = seat_in (lookup (same_text peer) peers)

-- what is handed out where the session and the seat of a peer are asked for: both, or neither
abbrev pub handed_out : Result State SlotFault → Option Seated → Result (State × Seated) SlotFault
handed_out (Err fault) seat = Err fault
handed_out (Ok session) None = Err faults.AlreadyOn
handed_out (Ok session) (Some seat) = Ok (session, seat)

-- the peers with what stands under a name changed, where that is listed
abbrev pub changed_in : {L : Type 0} → Option (Peer L) → (Peer L → Peer L) → List ℕ → List (List ℕ × Peer L) → List (List ℕ × Peer L)
changed_in None change peer peers = peers
changed_in (Some listed) change peer peers = set_value (same_text peer) peers (change listed)

abbrev pub changed : {L : Type 0} → (Peer L → Peer L) → List ℕ → List (List ℕ × Peer L) → List (List ℕ × Peer L)
changed change peer peers = changed_in (lookup (same_text peer) peers) change peer peers

-- the peers when the seat of one was taken, and all else is as it was
abbrev pub without_seat : {L : Type 0} → List ℕ → List (List ℕ × Peer L) → List (List ℕ × Peer L)
without_seat peer peers = changed (λ listed. record listed { seat = None }) peer peers

-- the peers when this seat was put in under its peer's name, with the number that the session expects, and all else is as it was
abbrev pub with_seat : {L : Type 0} → Seated → ℕ → List (List ℕ × Peer L) → List (List ℕ × Peer L)
with_seat seat expected peers = changed (λ listed. record { seat = Some seat; expected = expected }) seat.peer peers

-- the peers when the number that one's session expects was noted, and all else is as it was
abbrev pub with_expected : {L : Type 0} → ℕ → List ℕ → List (List ℕ × Peer L) → List (List ℕ × Peer L)
with_expected expected peer peers = changed (λ listed. record listed { expected = expected }) peer peers

-- the seat that stands under a name, where it is in, is that peer's
abbrev pub IsOwnSeat : {L : Type 0} → List ℕ × Peer L → Type 0
IsOwnSeat entry = IfSome entry.1.seat (λ seat. seat.peer ≡ entry.0)

-- each seat that is in stands under its own peer's name
abbrev pub AreOwnSeats : {L : Type 0} → List (List ℕ × Peer L) → Type 0
AreOwnSeats peers = All IsOwnSeat peers
