-- The sessions of a capture: those that are out, and after them those of the table.
use Rattle.std.specs.Prelude.{◌≡◌, ◌<◌, ℕ, List, length, take, slice_index_or, find, Option, Some, None}
use Rattle.std.specs.Option.{option_or}
use Rattle.blot_tag.specs.Fields.{fields_of}
use Rattle.blot_types.specs.Keys.{same_text}
use Rattle.blot_fields.specs.First.{text_in}
use Rattle.blot_fields.specs.Sender.{sender_of}
use Rattle.blot_session.specs.declared.state.State.{State}
use Rattle.blot_slots.specs.Slots.{Slots, slot_of}
use Rattle.blot_desk.specs.Desk.{DeskState}
use Rattle.blot_capture.specs.Capture.{Sessions}
use Rattle.blot_capture.specs.Replay.{Taking}

-- the session of a peer among some
abbrev pub session_among : List ℕ → List State → Option State
session_among peer sessions = find (λ session. same_text session.peer peer) sessions

-- the session of a slot, where it is in
abbrev pub session_of_slot : Option (Option State) → Option State
session_of_slot None = None
session_of_slot (Some session) = session

-- those that are out, and the table of the others
pub record Parts : Type 0 where
  pub out : List State
  pub table : Slots

-- the session of a peer: the one that is out, or else the one that is in
abbrev pub session_in : List State → Slots → Sessions
session_in out slots peer = option_or (session_among peer out) (session_of_slot (slot_of slots peer))

abbrev pub sessions_of : Parts → Sessions
sessions_of parts = session_in parts.out parts.table

-- they and the desk, as they are
abbrev pub taking_of : Parts → DeskState → Taking
taking_of parts desk = record { sessions = sessions_of parts; desk = desk }

-- the first session of a peer stands at this place
pub record IsAt (peer : List ℕ) (sessions : List State) (place : ℕ) : Type 0 where
  pub within : place < length sessions
  pub first : session_among peer (take place sessions) ≡ None
  pub of_peer : (other : State) → (slice_index_or sessions place other).peer ≡ peer

-- the first session of the peer with this CompID stands at this place
pub record IsSenderAt (sender : List ℕ) (sessions : List State) (place : ℕ) : Type 0 where
  pub text : text_in sender ≡ Some sender
  pub at : IsAt sender sessions place

-- the session of a frame's sender stands at this place
pub record IsPlaceFor (text : List ℕ) (sessions : List State) (place : ℕ) : Type 0 where
  pub peer : List ℕ
  pub sent : sender_of (fields_of text) ≡ Some peer
  pub at : IsAt peer sessions place
