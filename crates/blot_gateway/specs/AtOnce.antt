-- Wires that are served at once: what comes of each, and what the seats get.
use Rattle.std.specs.Prelude.{◌≡◌, ◌⊎◌, ℕ, ℤ, Bool, true, false, List, [], ◌∷◌, ◌++◌, Result, Ok, Err}
use Rattle.std.specs.List.{list_all}
use Rattle.blot_types.specs.declared.command.Command.{Command}
use Rattle.blot_session.specs.declared.action.CloseReason.TheVariants as reasons
use Rattle.blot_session.specs.declared.state.State.{State}
use Rattle.blot_slots.specs.declared.slot_fault.SlotFault.{SlotFault}
use Rattle.blot_slots.specs.declared.slot_fault.SlotFault.TheVariants as faults
use Rattle.blot_slots.specs.Slots.{IsWaiting}
use Rattle.blot_desk.specs.declared.{event.Event.Event, event.Event.TheVariants.Submit, event.Reply.Reply, fault.DeskFault.DeskFault, receipt.Receipt.Receipt}
use Rattle.blot_desk.specs.Receipts.{IsOneMore}
use Rattle.blot_gateway.specs.declared.{ended.Ended.Ended, ended.TheConstants.READS_MAX}
use Rattle.blot_gateway.specs.declared.ended.Ended.TheVariants as ended
use Rattle.blot_gateway.specs.Greeting.{Greeted}
use Rattle.blot_gateway.specs.Serving.{Served, IsCounted, parties}
use Rattle.blot_gateway.specs.Wires.{Did, Answered, hands}

-- ---- the receipts of a seat

-- after the submit of a command: one more receipt, of that submit and its reply; after a fault none more
abbrev pub Keeps : List Receipt → Command → Result Reply DeskFault → List Receipt → Type 0
Keeps before command (Ok reply) after = IsOneMore before after (Submit command) reply
Keeps before command (Err fault) after = after ≡ before

-- what a seat does with a command, as the sink of a session
abbrev pub TakesReceipt : List Receipt → Answered → List Receipt → Type 0
TakesReceipt before answered after = Keeps before answered.command answered.answer after

-- whether an event is a submit
abbrev pub is_submit : Event → Bool
is_submit (Submit command) = true
is_submit event = false

-- whether all these receipts are of submits
abbrev pub are_submits : List Receipt → Bool
are_submits receipts = list_all (λ receipt. is_submit receipt.event) receipts

-- the receipts after are those before, and then some of submits
pub record AddsSubmits (before after : List Receipt) : Type 0 where
  pub more : List Receipt
  pub joined : after ≡ before ++ more
  pub submits : are_submits more ≡ true

-- ---- one wire

-- a wire with its clock and its sink, as they are
pub record WireParts (W C S : Type 0) : Type 0 where
  pub wire : W
  pub clock : C
  pub sink : S

-- these three, together
abbrev pub wire_parts : {W C S : Type 0} → W → C → S → WireParts W C S
wire_parts wire clock sink = record { wire = wire; clock = clock; sink = sink }

-- the ending of a wire whose peer's session is refused with this fault
abbrev pub turned_by : SlotFault → Ended
turned_by faults.AlreadyOn = ended.Closed reasons.AlreadyOn
turned_by fault = ended.Closed reasons.CompId

-- the session of a peer is handed out as it waits for a Logon, and served
pub record ServesPeer {W C S : Type 0} (does : W → Did → W → Type 0) (ticks : C → ℤ → C → Type 0) (takes : S → Answered → S → Type 0)
    (end : Ended) (peer unread : List ℕ) (before after : WireParts W C S) : Type 0 where
  pub session : State
  pub last : State
  pub waits : IsWaiting peer session
  pub served : Served does ticks (hands takes) READS_MAX end (parties before.wire before.clock before.sink session) unread (parties after.wire after.clock after.sink last)

-- it is refused with one of two faults, and nothing is done. Which of them, and whether it had to be, isn't said: the table is under a lock
pub record TurnsAway {W C S : Type 0} (end : Ended) (before after : WireParts W C S) : Type 0 where
  pub fault : SlotFault
  pub why : (fault ≡ faults.UnknownPeer) ⊎ (fault ≡ faults.AlreadyOn)
  pub ends : end ≡ turned_by fault
  pub same : after ≡ before

-- what follows a greeting: nothing, where it is itself the ending; else the peer's session is refused or served
abbrev pub Follows : {W C S : Type 0} → (W → Did → W → Type 0) → (C → ℤ → C → Type 0) → (S → Answered → S → Type 0)
    → Result (List ℕ) Ended → Ended → List ℕ → WireParts W C S → WireParts W C S → Type 0
Follows does ticks takes (Err cause) end unread before after = (end ≡ cause) × (after ≡ before)
Follows does ticks takes (Ok peer) end unread before after = TurnsAway end before after ⊎ ServesPeer does ticks takes end peer unread before after

-- a wire is greeted, and then its peer's session served
pub record ServesWire {W C S : Type 0} (does : W → Did → W → Type 0) (ticks : C → ℤ → C → Type 0) (takes : S → Answered → S → Type 0)
    (own : List ℕ) (end : Ended) (before after : WireParts W C S) : Type 0 where
  pub answer : Result (List ℕ) Ended
  pub greeted : W
  pub unread : List ℕ
  pub greets : Greeted does own READS_MAX answer before.wire [] greeted unread
  pub follows : Follows does ticks takes answer end unread (record before { wire = greeted }) after

-- ---- many

-- a wire ended so, with these receipts at its seat: it was served, and a failure of it counted
pub record IsServed {W C : Type 0} (does : W → Did → W → Type 0) (ticks : C → ℤ → C → Type 0) (failures : W → ℕ) (own : List ℕ)
    (wire : W) (clock : C) (receipts : List Receipt) (end : Ended) (receipts_after : List Receipt) : Type 0 where
  pub wire_after : W
  pub clock_after : C
  pub serves : ServesWire does ticks TakesReceipt own end (wire_parts wire clock receipts) (wire_parts wire_after clock_after receipts_after)
  pub counted : IsCounted (failures wire) (failures wire_after) end

-- each of these wires did, in their order
abbrev pub EachServed : {W C : Type 0} → (W → Did → W → Type 0) → (C → ℤ → C → Type 0) → (W → ℕ) → List ℕ
    → List W → List C → List (List Receipt) → List (Ended × List Receipt) → Type 0
EachServed does ticks failures own [] [] [] [] = Unit {0}
EachServed does ticks failures own (wire ∷ wires) (clock ∷ clocks) (receipts ∷ seats) (ending ∷ endings) =
    IsServed does ticks failures own wire clock receipts ending.0 ending.1 × EachServed does ticks failures own wires clocks seats endings
EachServed does ticks failures own wires clocks seats endings = ⊥

-- each of these seats got some receipts of submits
abbrev pub EachAdds : List (List Receipt) → List (List Receipt) → Type 0
EachAdds [] [] = Unit {0}
EachAdds (before ∷ earlier) (after ∷ later) = AddsSubmits before after × EachAdds earlier later
EachAdds earlier later = ⊥
