-- What a sink hears of a frame of which no command was delivered.
use Rattle.std.specs.Prelude.{◌==◌, nat_lt, ℕ, ℤ, Bool, true, false, ◌&&◌, ◌||◌, not, List, [], ◌∷◌, Option, Some, None, Result, is_some, if◌then◌else◌}
use Rattle.blot_fields.specs.declared.{fault.FieldFault.FieldFault, message.Message.Message}
use Rattle.blot_session.specs.Calls.{on_frame}
use Rattle.blot_session.specs.Met.{met_of}
use Rattle.blot_session.specs.Runs.{Call, said_by}
use Rattle.blot_session.specs.Runs.Call.{Frame}
use Rattle.blot_session.specs.declared.{state.Phase.Phase, state.State.State}
use Rattle.blot_session.specs.declared.state.Phase.TheVariants as phases
use Rattle.blot_session.specs.States.{awaited_of, phase_of}
use Rattle.blot_gateway.specs.declared.{calling.Before.Before, wire.Heard.Heard}
use Rattle.blot_gateway.specs.Wires.{Notice}
use Rattle.blot_gateway.specs.Wires.Notice.{HeardOf}

-- whether a phase is that of a session that is on
abbrev pub is_on : Phase → Bool
is_on phases.On = true
is_on phase = false

-- whether a session came on, expects another number than before, or sends a lower one next
abbrev pub is_renumbered : Before → State → Bool
is_renumbered before session = not (is_on before.phase) || not (session.expected == before.expected) || nat_lt session.next before.next

-- what is heard of a frame that came to a session: nothing where a command awaits its reply, or where the session neither was on nor is
abbrev pub heard : Before → State → Option Heard
heard before session =
    if is_some (awaited_of session) || (not (is_on before.phase) && not (is_on (phase_of session))) then None
    else Some (record {
      met = before.met;
      is_renumbered = is_renumbered before session;
      expected = session.expected;
      next = session.next;
    })

-- a session before a frame came that says this, and what becomes of the frame
abbrev pub before_frame : State → Result Message FieldFault → ℤ → Before
before_frame state said now = record { met = met_of state said now; phase = phase_of state; expected = state.expected; next = state.next }

-- what is heard of a frame with this text that comes at this moment
abbrev pub heard_by : State → List ℕ → ℤ → Option Heard
heard_by state text now = heard (before_frame state (said_by text) now) (on_frame state (said_by text) now).state

-- word of a frame, if something is heard of it
abbrev pub word_of : List ℕ → Option Heard → List Notice
word_of text None = []
word_of text (Some heard) = HeardOf text heard ∷ []

-- what a sink hears of a call, for which there was memory or wasn't
abbrev pub word_in : State → Call → List Notice
word_in state (Frame text now true) = word_of text (heard_by state text now)
word_in state call = []
