-- What is written to a wire, and how one call of a session ends.
use Rattle.std.specs.Prelude.{◌≡◌, ℕ, ℤ, Bool, true, false, List, [], Option, Some, None, Result, flat_map}
use Rattle.blot_types.specs.declared.command.Command.{Command}
use Rattle.blot_session.specs.declared.{action.Action.Action, state.State.State}
use Rattle.blot_session.specs.Runs.{Call, DeliversJust, outcome, bytes_of}
use Rattle.blot_session.specs.Runs.Call.{Frame, Reply}
use Rattle.blot_desk.specs.declared.{event.Reply.Reply as DeskReply, fault.DeskFault.DeskFault}
use Rattle.blot_gateway.specs.declared.{ended.Stop.Stop, parties.Parties.Parties}
use Rattle.blot_gateway.specs.declared.ended.Stop.TheVariants as stops
use Rattle.blot_gateway.specs.Hearing.{word_in}
use Rattle.blot_gateway.specs.Wires.{Did, Notice, StepByStep, reads_of, written_of}
use Rattle.blot_gateway.specs.Wires.Notice.{Handed}
use Rattle.blot_gateway.specs.Serving.{IsFront, close_in, seen_reply}

-- a wire takes just these bytes
pub record Writes {W : Type 0} (does : W → Did → W → Type 0) (before : W) (text : List ℕ) (after : W) : Type 0 where
  pub dids : List Did
  pub steps : StepByStep does before dids after
  pub read : reads_of dids ≡ []
  pub written : written_of dids ≡ text

-- it takes a front of them, but not all
pub record WritesFront {W : Type 0} (does : W → Did → W → Type 0) (before : W) (text : List ℕ) (after : W) : Type 0 where
  pub front : List ℕ
  pub writes : Writes does before front after
  pub is_front : IsFront front text

-- what is sent is written, or a front of it, and then this stops the session
abbrev pub Halts : {W : Type 0} → (W → Did → W → Type 0) → Stop → W → List Action → W → Type 0
Halts does (stops.Closed reason) before actions after = Writes does before (flat_map bytes_of actions) after × (close_in actions ≡ Some reason)
Halts does stops.WriteFault before actions after = WritesFront does before (flat_map bytes_of actions) after
Halts does stops.NoMemory before actions after = ⊥

-- one call of a session, at the clock's moment: all that it sends is written, it delivers this command or none, and it doesn't end
-- the connection
pub record Called {W C : Type 0} (does : W → Did → W → Type 0) (ticks : C → ℤ → C → Type 0) (command : Option Command) (call : ℤ → Bool → Call)
    (wire : W) (clock : C) (state : State) (wire_after : W) (clock_after : C) (after : State) : Type 0 where
  pub now : ℤ
  pub ticked : ticks clock now clock_after
  pub session : after ≡ (outcome state (call now true)).state
  pub writes : Writes does wire (flat_map bytes_of (outcome state (call now true)).actions) wire_after
  pub delivers : DeliversJust command (outcome state (call now true)).actions
  pub stays : close_in (outcome state (call now true)).actions ≡ None

-- it stops the session: what it sends isn't written, or it ends the connection, or there is no memory for it
abbrev pub StopsAt : {W : Type 0} → (W → Did → W → Type 0) → Stop → W → List Action → Bool → W → Type 0
StopsAt does stops.NoMemory before actions memory after = (memory ≡ false) × (after ≡ before)
StopsAt does stop before actions memory after = (memory ≡ true) × Halts does stop before actions after

-- one call of a session that stops it; it delivers nothing
pub record Halted {W C : Type 0} (does : W → Did → W → Type 0) (ticks : C → ℤ → C → Type 0) (call : ℤ → Bool → Call)
    (wire : W) (clock : C) (state : State) (wire_after : W) (clock_after : C) (after : State) (stop : Stop) : Type 0 where
  pub now : ℤ
  pub memory : Bool
  pub ticked : ticks clock now clock_after
  pub session : after ≡ (outcome state (call now memory)).state
  pub halts : StopsAt does stop wire (outcome state (call now memory)).actions memory wire_after
  pub delivers : DeliversJust None (outcome state (call now memory)).actions

-- a frame with this text comes to a session, and where no command is delivered the sink hears what it came to
pub record Comes {W C S : Type 0} (does : W → Did → W → Type 0) (ticks : C → ℤ → C → Type 0) (takes : S → Notice → S → Type 0)
    (command : Option Command) (text : List ℕ) (before after : Parties W C S) : Type 0 where
  pub called : Called does ticks command (Frame text) before.wire before.clock before.session after.wire after.clock after.session
  pub heard : StepByStep takes before.sink (word_in before.session (Frame text called.now true)) after.sink

-- and that stops it
pub record ComesLast {W C S : Type 0} (does : W → Did → W → Type 0) (ticks : C → ℤ → C → Type 0) (takes : S → Notice → S → Type 0)
    (text : List ℕ) (before after : Parties W C S) (stop : Stop) : Type 0 where
  pub halted : Halted does ticks (Frame text) before.wire before.clock before.session after.wire after.clock after.session stop
  pub heard : StepByStep takes before.sink (word_in before.session (Frame text halted.now halted.memory)) after.sink

-- a command is handed to the sink, and the session told the answer
pub record Submitted {W C S : Type 0} (does : W → Did → W → Type 0) (ticks : C → ℤ → C → Type 0) (takes : S → Notice → S → Type 0)
    (command : Command) (before after : Parties W C S) : Type 0 where
  pub answer : Result DeskReply DeskFault
  pub taken : takes before.sink (Handed (record { command = command; answer = answer })) after.sink
  pub called : Called does ticks None (Reply (seen_reply answer)) before.wire before.clock before.session after.wire after.clock after.session

-- and that stops it
pub record SubmittedLast {W C S : Type 0} (does : W → Did → W → Type 0) (ticks : C → ℤ → C → Type 0) (takes : S → Notice → S → Type 0)
    (command : Command) (before after : Parties W C S) (stop : Stop) : Type 0 where
  pub answer : Result DeskReply DeskFault
  pub taken : takes before.sink (Handed (record { command = command; answer = answer })) after.sink
  pub halted : Halted does ticks (Reply (seen_reply answer)) before.wire before.clock before.session after.wire after.clock after.session stop
