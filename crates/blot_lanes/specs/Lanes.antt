-- The connections of an open day.
use Rattle.std.specs.Prelude.{◌≡◌, ◌⊎◌, ⊤, true, ℕ, ℤ, List, [], Result, Ok, Err}
use Rattle.blot_session.specs.declared.state.State.{State}
use Rattle.blot_slots.specs.declared.slot_fault.SlotFault.{SlotFault}
use Rattle.blot_slots.specs.declared.slot_fault.SlotFault.TheVariants as faults
use Rattle.blot_slots.specs.Slots.{IsWaiting}
use Rattle.blot_gateway.specs.AtOnce.{are_submits, turned_by}
use Rattle.blot_gateway.specs.declared.ended.Ended.{Ended}
use Rattle.blot_gateway.specs.Greeting.{Greeted}
use Rattle.blot_gateway.specs.Serving.{IsCounted, parties}
use Rattle.blot_gateway.specs.Stopping.{ServedUntil}
use Rattle.blot_gateway.specs.Wires.{Did}
use Rattle.blot_lanes.specs.declared.connection.TheConstants.{GREETING_READS}
use Rattle.blot_lanes.specs.Seats.{Seated, TakesAs}

-- the session of a peer is handed out as it waits for a Logon, with the peer's seat, whose receipts are of submits alone; and it is
-- served until it ends or the day does, each command that it delivers being a submit by that seat, which stays the peer's
pub record ServesPeer {W C : Type 0} (does : W → Did → W → Type 0) (ticks : C → ℤ → C → Type 0)
    (end : Ended) (peer unread : List ℕ) (wire : W) (clock : C) (wire_after : W) (clock_after : C) : Type 0 where
  pub session : State
  pub last : State
  pub seat : Seated
  pub seat_after : Seated
  pub waits : IsWaiting peer session
  pub of_peer : seat.peer ≡ peer
  pub earlier : are_submits seat.receipts ≡ true
  pub served : ServedUntil does ticks TakesAs ⊤ end (parties wire clock seat session) unread (parties wire_after clock_after seat_after last)

-- it is refused with one of two faults, and nothing is done. Which of them, and whether it had to be, isn't said: the table is under a lock
pub record TurnsAway {W C : Type 0} (end : Ended) (wire : W) (clock : C) (wire_after : W) (clock_after : C) : Type 0 where
  pub fault : SlotFault
  pub why : (fault ≡ faults.UnknownPeer) ⊎ (fault ≡ faults.AlreadyOn)
  pub ends : end ≡ turned_by fault
  pub same_wire : wire_after ≡ wire
  pub same_clock : clock_after ≡ clock

-- what follows a greeting: nothing, where it is itself the ending; else the peer's session is refused or served
abbrev pub Follows : {W C : Type 0} → (W → Did → W → Type 0) → (C → ℤ → C → Type 0) → Result (List ℕ) Ended → Ended → List ℕ → W → C → W → C → Type 0
Follows does ticks (Err cause) end unread wire clock wire_after clock_after = (end ≡ cause) × (wire_after ≡ wire) × (clock_after ≡ clock)
Follows does ticks (Ok peer) end unread wire clock wire_after clock_after =
    TurnsAway end wire clock wire_after clock_after ⊎ ServesPeer does ticks end peer unread wire clock wire_after clock_after

-- a connection is greeted, within so many reads, and then its peer's session is served
pub record ServesConnection {W C : Type 0} (does : W → Did → W → Type 0) (ticks : C → ℤ → C → Type 0) (failures : W → ℕ) (own : List ℕ)
    (wire : W) (clock : C) (end : Ended) : Type 0 where
  pub wire_after : W
  pub clock_after : C
  pub answer : Result (List ℕ) Ended
  pub greeted : W
  pub unread : List ℕ
  pub greets : Greeted does own GREETING_READS answer wire [] greeted unread
  pub follows : Follows does ticks answer end unread greeted clock wire_after clock_after
  pub counted : IsCounted (failures wire) (failures wire_after) end
