-- The sessions of a blotter with its listed peers: which is in, and which is out.
use Rattle.std.specs.Prelude.{◌≡◌, ℕ, List, map, Option, None, Some, Result, Ok, Err, All, IfSome}
use Rattle.std.specs.Map.{lookup, set_value}
use Rattle.blot_types.specs.Keys.{same_text}
use Rattle.blot_session.specs.declared.state.State.{State}
use Rattle.blot_session.specs.declared.state.Phase.TheVariants as phases
use Rattle.blot_session.specs.States.{fresh, phase_of}
use Rattle.blot_slots.specs.declared.slot_fault.SlotFault.{SlotFault}
use Rattle.blot_slots.specs.declared.slot_fault.SlotFault.TheVariants as faults

-- the blotter's CompID, and each listed peer with its session, or with none while that is out
pub record Slots : Type 0 where
  pub own : List ℕ
  pub slots : List (List ℕ × Option State)

-- none for a peer that isn't listed; `Some None` while its session is out, `Some (Some session)` while it is in
abbrev pub slot_of : Slots → List ℕ → Option (Option State)
slot_of slots peer = lookup (same_text peer) slots.slots

-- another content of a listed peer's slot
abbrev pub with_slot : List ℕ → Option State → Slots → Slots
with_slot peer session slots = record slots { slots = set_value (same_text peer) slots.slots session }

-- each of these peers has a new session, which is in
abbrev pub fresh_slots : List ℕ → List (List ℕ) → List (List ℕ × Option State)
fresh_slots own peers = map (λ peer. (peer, Some (fresh own peer))) peers

abbrev pub all_in : List ℕ → List (List ℕ) → Slots
all_in own peers = record { own = own; slots = fresh_slots own peers }

-- what a slot answers where its session is asked for
abbrev pub answer_of : Option (Option State) → Result State SlotFault
answer_of None = Err faults.UnknownPeer
answer_of (Some None) = Err faults.AlreadyOn
answer_of (Some (Some session)) = Ok session

-- what is answered where the session of a peer is asked for
abbrev pub checked_out : Slots → List ℕ → Result State SlotFault
checked_out slots peer = answer_of (slot_of slots peer)

-- a session of this peer that waits for a Logon
pub record IsWaiting (peer : List ℕ) (session : State) : Type 0 where
  pub of_peer : session.peer ≡ peer
  pub phase : phase_of session ≡ phases.Waiting

-- the session of a slot, where it is in, is its own peer's and waits for a Logon
abbrev pub IsWaitingSlot : List ℕ × Option State → Type 0
IsWaitingSlot slot = IfSome slot.1 (IsWaiting slot.0)

-- each session that is in is its own peer's and waits for a Logon
abbrev pub AreWaiting : List (List ℕ × Option State) → Type 0
AreWaiting slots = All IsWaitingSlot slots
