-- What each call of a session gives: the session after it, and what is to be done.
use Rattle.std.specs.Prelude.{◌≡◌, ℕ, Bool, true, false, nat_lt, ◌&&◌, ℤ, List, [], ◌∷◌, ◌++◌, Option, Some, None, Result, Ok, Err, Vec, is_some, if◌then◌else◌}
use Rattle.std.specs.List.{list_any}
use Rattle.blot_types.specs.declared.command.Command.{Command}
use Rattle.blot_fields.specs.Commands.{command_of}
use Rattle.blot_fields.specs.declared.{fault.FieldFault.FieldFault, message.Message.Message}
use Rattle.blot_session.specs.declared.{action.Action.Action, carrying.TheConstants.LAST_NUMBER, outbound.Outbound.Outbound, replies.NotTaken.NotTaken, replies.SeenReply.SeenReply, row.End.End, row.Row.Row, state.Awaited.Awaited, state.State.State}
use Rattle.blot_session.specs.declared.action.Action.TheVariants.{Send, Deliver, Close}
use Rattle.blot_session.specs.declared.action.CloseReason.TheVariants as reasons
use Rattle.blot_session.specs.declared.row.End.TheVariants.{Stays, Delivers, Closes}
use Rattle.blot_session.specs.Outbound.{next_behind, text_of}
use Rattle.blot_session.specs.Rows.{frame_row, tick_row, stop_row, reply_row}
use Rattle.blot_session.specs.States.{spoken, closed, awaited_of}
use Rattle.blot_session.specs.Table.{acts, messages_of, silent}

-- a session after a call, and what is to be done
pub record Outcome : Type 0 where
  pub state : State
  pub actions : List Action

-- a call gives this: so the session is after it, and this is to be done
abbrev pub Gives : {A : Type 0} → Outcome → State → Vec Action A → Type 0
Gives given state actions = record { state = state; actions = actions.items } ≡ given

-- a session after a message that was sent
abbrev pub behind : State → Outbound → ℤ → State
behind state message now = spoken now (record state { next = next_behind message state.next })

abbrev pub behind_all : State → List Outbound → ℤ → State
behind_all state [] now = state
behind_all state (message ∷ messages) now = behind_all (behind state message now) messages now

-- messages as they are sent, one after the other
abbrev pub sent : State → List Outbound → ℤ → List Action
sent state [] now = []
sent state (message ∷ messages) now = Send (text_of state message now) ∷ sent (behind state message now) messages now

-- how a call ends, with the command that its message brings
abbrev pub ending : End → Option Command → List Action
ending Stays command = []
ending Delivers None = []
ending Delivers (Some command) = Deliver command ∷ []
ending (Closes reason) command = Close reason ∷ []

-- what is done with the command that a report brings, if it brings one
abbrev pub delivery_of : Option Command → List Action
delivery_of command = ending Delivers command

-- a call takes a report, which brings a command: so the session is after it, and to deliver the command is all that is to be done
pub record GivesCommand (given : Outcome) (state : State) (command : Option Command) : Type 0 where
  pub brings : is_some command ≡ true
  pub gives : record { state = state; actions = delivery_of command } ≡ given

-- what a row says is done
abbrev pub carried_out : Row → Option Command → ℤ → Outcome
carried_out row command now = record {
  state = behind_all row.state (messages_of row.sends) now;
  actions = sent row.state (messages_of row.sends) now ++ ending row.end command;
}

-- the numbers to send are used up, and something is to be done
abbrev pub is_spent : State → Row → Bool
is_spent state row = nat_lt LAST_NUMBER state.next && acts row

-- the connection ends then, and nothing else is done
abbrev pub spent : State → Outcome
spent state = record { state = closed state; actions = Close reasons.Spent ∷ [] }

-- a row, unless the numbers to send are used up
abbrev pub outcome_of : State → Row → Option Command → ℤ → Outcome
outcome_of state row command now =
    if is_spent state row then spent state else carried_out row command now

-- the command that a frame brings the book
abbrev pub command_said : Result Message FieldFault → List ℕ → Option Command
command_said (Ok message) peer = command_of message peer
command_said (Err fault) peer = None

-- a frame that says this comes
abbrev pub on_frame : State → Result Message FieldFault → ℤ → Outcome
on_frame state said now = outcome_of state (frame_row state said now) (command_said said state.peer) now

-- a moment passes
abbrev pub on_tick : State → ℤ → Outcome
on_tick state now = outcome_of state (tick_row state now) None now

-- the day ends
abbrev pub on_stop : State → ℤ → Outcome
on_stop state now = outcome_of state (stop_row state) None now

-- the reply to what was delivered comes
abbrev pub reply_row_by : State → Option Awaited → Result SeenReply NotTaken → Row
reply_row_by state (Some awaited) reply = reply_row state awaited reply
reply_row_by state None reply = silent state

abbrev pub row_of_reply : State → Result SeenReply NotTaken → Row
row_of_reply state reply = reply_row_by state (awaited_of state) reply

abbrev pub on_reply : State → Result SeenReply NotTaken → ℤ → Outcome
on_reply state reply now = outcome_of state (row_of_reply state reply) None now

-- whether an action delivers a command
abbrev pub is_deliver : Action → Bool
is_deliver (Deliver command) = true
is_deliver action = false

-- only the last of some actions may deliver a command
abbrev pub DeliversLast : List Action → Type 0
DeliversLast [] = Unit {0}
DeliversLast (action ∷ []) = Unit {0}
DeliversLast (action ∷ next ∷ actions) = (is_deliver action ≡ false) × DeliversLast (next ∷ actions)

-- an action that delivers a command is the only one
abbrev pub DeliversAlone : List Action → Type 0
DeliversAlone (action ∷ []) = Unit {0}
DeliversAlone actions = list_any is_deliver actions ≡ false

-- what a call delivers awaits its reply, and nothing else does
pub record Awaits (state : State) (actions : List Action) : Type 0 where
  pub last : DeliversLast actions
  pub awaited : list_any is_deliver actions ≡ is_some (awaited_of state)
