-- The walk over a capture, message by message, which an audit trail tells. By the law below the commands that `capture` submits and the
-- list that `replay` reports on are readings of it too.
use Rattle.std.specs.Prelude.{◌≡◌, ℕ, ℤ, List, [], ◌∷◌, ◌++◌, map, Option, Some, None, Ok, flat_map, option_and_then}
use Rattle.blot_tag.specs.Fields.{fields_of}
use Rattle.blot_tag.specs.Places.{Placed, placed_of}
use Rattle.blot_types.specs.declared.{command.Command.Command, command.Entry.Entry}
use Rattle.blot_fields.specs.Sender.{sender_of}
use Rattle.blot_session.specs.declared.{action.Action.Action, met.Met.Met, state.State.State}
use Rattle.blot_session.specs.Calls.{Outcome, on_reply}
use Rattle.blot_session.specs.Met.{met_of}
use Rattle.blot_session.specs.Runs.{outcome, said_by}
use Rattle.blot_desk.specs.declared.{event.Event.TheVariants.Submit, event.Reply.Reply, event.Reply.TheVariants.Accepted}
use Rattle.blot_desk.specs.Desk.{DeskState, empty_desk, run_of, step_of, replies_of}
use Rattle.blot_gateway.specs.Serving.{seen_reply}
use Rattle.blot_capture.specs.declared.became.Became.{Became}
use Rattle.blot_capture.specs.declared.became.Became.TheVariants as became
use Rattle.blot_capture.specs.Capture.{Sessions, behind_frame, commands_in, commands_of, frame_call, moment_at, sessions_behind, taken_by}
use Rattle.blot_capture.specs.Replay.{Taking, list_of, submitted, taking_from}

-- ---- a frame at its session

-- the session of a frame's sender
abbrev pub session_for : Sessions → List ℕ → Option State
session_for sessions text = option_and_then sessions (sender_of (fields_of text))

-- the book's reply to a command
abbrev pub reply_to : DeskState → Command → Reply
reply_to desk command = (step_of desk.book (Submit command)).reply

-- what a session does that is told the reply to its command
abbrev pub on_told : State → Reply → ℤ → Outcome
on_told state reply now = on_reply state (seen_reply (Ok reply)) now

-- what became of a frame: the reply to the command that it brought, or else what its session made of it
abbrev pub became_of : Met → DeskState → List Command → Became
became_of met desk [] = became.Met met
became_of met desk (command ∷ commands) = became.Replied (reply_to desk command)

-- all that the session wants done: about the frame, and then about the reply
abbrev pub actions_after : State → DeskState → ℤ → List Action → List Command → List Action
actions_after state desk now actions [] = actions
actions_after state desk now actions (command ∷ commands) = actions ++ (on_told state (reply_to desk command) now).actions

abbrev pub became_at : State → DeskState → List ℕ → Became
became_at state desk text = became_of (met_of state (said_by text) (moment_at text)) desk (taken_by state text)

abbrev pub actions_at : State → DeskState → List ℕ → List Action
actions_at state desk text =
    actions_after (behind_frame state text) desk (moment_at text) (outcome state (frame_call text)).actions (taken_by state text)

-- the frame of a sender without a session is passed over
abbrev pub became_in : Option State → DeskState → List ℕ → Became
became_in None desk text = became.Passed
became_in (Some state) desk text = became_at state desk text

abbrev pub actions_in : Option State → DeskState → List ℕ → List Action
actions_in None desk text = []
actions_in (Some state) desk text = actions_at state desk text

-- ---- the walk

-- a message: where it stands, the commands that it brings the book, what became of it, and what its session wants done
pub record Turn : Type 0 where
  pub placed : Placed
  pub commands : List Command
  pub became : Became
  pub actions : List Action

abbrev pub turn_of : Taking → Placed → Turn
turn_of taking placed = record {
  placed = placed;
  commands = commands_in taking.sessions placed.text;
  became = became_in (session_for taking.sessions placed.text) taking.desk placed.text;
  actions = actions_in (session_for taking.sessions placed.text) taking.desk placed.text;
}

-- the sessions and the desk after a message
abbrev pub taking_after : Taking → List ℕ → Taking
taking_after taking text = record {
  sessions = sessions_behind taking.sessions text;
  desk = submitted taking.desk (commands_in taking.sessions text);
}

-- some messages, one after the other
abbrev pub trace_over : Taking → List Placed → List Turn
trace_over taking [] = []
trace_over taking (placed ∷ more) = turn_of taking placed ∷ trace_over (taking_after taking placed.text) more

-- no peer was heard of yet, and the desk is empty
abbrev pub first_taking : List ℕ → List (List ℕ) → Taking
first_taking own peers = taking_from own peers empty_desk

-- the messages of a byte stream
abbrev pub trace_of : List ℕ → List (List ℕ) → List ℕ → List Turn
trace_of own peers bytes = trace_over (first_taking own peers) (placed_of bytes)

-- ---- the law

-- the reply that a message is told to have got
abbrev pub reply_told : Became → List Reply
reply_told (became.Replied reply) = reply ∷ []
reply_told other = []

-- what a message is told to have put into the book: its command, where that was accepted, under the number that it got
abbrev pub accepted_by : Command → Became → List Entry
accepted_by command (became.Replied (Accepted number)) = record { number = number; command = command } ∷ []
accepted_by command other = []

abbrev pub accepted_in : Turn → List Entry
accepted_in turn = flat_map (λ command. accepted_by command turn.became) turn.commands

-- the commands of the messages are those that a capture submits, and the replies that they got are those of the run of these. So what
-- the messages are told to have put into the book is, one by one, the live list from which the report of a day is made
pub record IsReplayed (own : List ℕ) (peers : List (List ℕ)) (bytes : List ℕ) : Type 0 where
  pub commands : flat_map (λ turn. turn.commands) (trace_of own peers bytes) ≡ commands_of own peers bytes
  pub replies : flat_map (λ turn. reply_told turn.became) (trace_of own peers bytes) ≡ replies_of (run_of (map Submit (commands_of own peers bytes))).history
  pub accepted : flat_map accepted_in (trace_of own peers bytes) ≡ list_of own peers bytes
