-- What a row of the session's table can say. Each word is one of the table's own.
use Rattle.std.specs.Prelude.{ℕ, ◌+◌, ◌≤◌, Bool, true, false, List, [], ◌∷◌}
use Rattle.blot_fields.specs.declared.TheConstants.{SEQUENCE_MAX}
use Rattle.blot_session.specs.declared.{action.CloseReason.CloseReason, carrying.TheConstants.LAST_NUMBER, outbound.Outbound.Outbound, row.End.End, row.Row.Row, row.Sends.Sends, state.Awaited.Awaited, state.State.State}
use Rattle.blot_session.specs.declared.row.End.TheVariants.{Stays, Delivers, Closes}
use Rattle.blot_session.specs.declared.row.Sends.TheVariants.{Nothing, One, Two}
use Rattle.blot_session.specs.States.{awaiting, closed, IsAwaiting}

-- nothing is done, and this is the session then
abbrev pub silent : State → Row
silent state = record { sends = Nothing; end = Stays; state = state }

-- a message is sent
abbrev pub sends : Outbound → State → Row
sends message state = record { sends = One message; end = Stays; state = state }

-- two messages are sent
abbrev pub sends_both : Outbound → Outbound → State → Row
sends_both first second state = record { sends = Two first second; end = Stays; state = state }

-- the command of the message is delivered, and awaits its reply
abbrev pub delivers : Awaited → State → Row
delivers awaited state = record { sends = Nothing; end = Delivers; state = awaiting awaited state }

-- the connection ends then
abbrev pub closing : CloseReason → Row → Row
closing reason row = record { sends = row.sends; end = Closes reason; state = closed row.state }

-- the messages, in their order
abbrev pub messages_of : Sends → List Outbound
messages_of Nothing = []
messages_of (One message) = message ∷ []
messages_of (Two first second) = first ∷ second ∷ []

-- whether a row does anything
abbrev pub acts_by : Sends → End → Bool
acts_by Nothing Stays = false
acts_by sends end = true

abbrev pub acts : Row → Bool
acts row = acts_by row.sends row.end

-- what a row sends leaves room for its numbers, which begin with this one
abbrev pub CanSend : Sends → ℕ → Type 0
CanSend Nothing next = Unit {0}
CanSend sends next = (1 ≤ next) × (next ≤ LAST_NUMBER)

-- the numbers of the session in a row are in their ranges, where this is the next number to send before it
pub record Fits (next : ℕ) (row : Row) : Type 0 where
  pub low : 1 ≤ row.state.next
  pub high : row.state.next ≤ next
  pub first : 1 ≤ row.state.expected
  pub number : row.state.expected ≤ SEQUENCE_MAX + 1
  pub awaited : IsAwaiting row.state → row.state.expected ≤ SEQUENCE_MAX
