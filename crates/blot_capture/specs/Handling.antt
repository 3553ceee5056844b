-- What a capture's sessions say came of a frame.
use Rattle.std.specs.Prelude.{◌≡◌, ℕ, Bool, false, List, [], ◌∷◌, map, Option, Some, None, Result, Ok, Err, option_map}
use Rattle.blot_types.specs.declared.command.Command.{Command}
use Rattle.blot_fields.specs.declared.{fault.FieldFault.FieldFault, message.Message.Message}
use Rattle.blot_session.specs.declared.{action.Action.Action, action.Action.TheVariants.Deliver, met.Met.Met, state.State.State}
use Rattle.blot_session.specs.Calls.{command_said, delivery_of}
use Rattle.blot_session.specs.InTurn.{is_about_fill}
use Rattle.blot_session.specs.Met.{met_of}
use Rattle.blot_session.specs.Runs.{delivered_by, said_by}
use Rattle.blot_desk.specs.declared.event.Reply.{Reply}
use Rattle.blot_desk.specs.Desk.{DeskState}
use Rattle.blot_capture.specs.declared.{became.Became.Became, handled.Handled.Handled}
use Rattle.blot_capture.specs.declared.became.Became.TheVariants as became
use Rattle.blot_capture.specs.declared.handled.Handled.TheVariants as handled
use Rattle.blot_capture.specs.Capture.{Sessions, moment_at}
use Rattle.blot_capture.specs.Replay.{Taking}
use Rattle.blot_capture.specs.Trace.{actions_in, became_in, session_for}

-- the commands that some actions deliver
abbrev pub delivered_in : List Action → List Command
delivered_in actions = map (λ numbered. numbered.command) (delivered_by 0 actions)

-- whether a frame says an Execution Report about a fill
abbrev pub is_fill_said : Result Message FieldFault → Bool
is_fill_said (Ok message) = is_about_fill message.body
is_fill_said (Err fault) = false

-- the actions of a call that takes a report
abbrev pub report_actions : Result Message FieldFault → List ℕ → List Action
report_actions said peer = delivery_of (command_said said peer)

-- what a session would make of a frame; a sender without a session has none
abbrev pub met_at : Option State → List ℕ → Option Met
met_at session text = option_map (λ state. met_of state (said_by text) (moment_at text)) session

-- what its sender's session would make of it
abbrev pub met_in : Sessions → List ℕ → Option Met
met_in sessions text = met_at (session_for sessions text) text

-- what became of the frame
abbrev pub became_met : Option Met → Became
became_met None = became.Passed
became_met (Some met) = became.Met met

abbrev pub became_by : Option Met → Handled → Became
became_by met handled.Passed = became.Passed
became_by met (handled.Met wanted) = became_met met
became_by met (handled.Replied reply wanted) = became.Replied reply

-- what the session wants done, except for the command that it delivered
abbrev pub wanted_of : Handled → List Action
wanted_of handled.Passed = []
wanted_of (handled.Met wanted) = wanted.items
wanted_of (handled.Replied reply wanted) = wanted.items

-- these are all that it wants done, where a call that delivers a command does nothing else
abbrev pub Wants : List Action → Handled → Type 0
Wants actions handled.Passed = actions ≡ []
Wants actions (handled.Met wanted) = actions ≡ wanted.items
Wants actions (handled.Replied reply wanted) = (command : Command) × (actions ≡ Deliver command ∷ wanted.items)

-- a frame became this: its session made this of it, and wants these actions done
pub record IsHandled (end : Became) (actions : List Action) (met : Option Met) (handled : Handled) : Type 0 where
  pub became : became_by met handled ≡ end
  pub wanted : Wants actions handled

-- it became what this session makes of it; a sender without a session has none
abbrev pub IsHandledBy : Option State → DeskState → List ℕ → Handled → Type 0
IsHandledBy session desk text = IsHandled (became_in session desk text) (actions_in session desk text) (met_at session text)

-- it became what its sender's session makes of it
abbrev pub IsHandledIn : Taking → List ℕ → Handled → Type 0
IsHandledIn taking text = IsHandledBy (session_for taking.sessions text) taking.desk text

-- the reply to a command, and what the session wants done about it
abbrev pub IsReplied : Reply → List Action → Handled → Type 0
IsReplied reply actions (handled.Replied given wanted) = (given ≡ reply) × (wanted.items ≡ actions)
IsReplied reply actions other = ⊥
