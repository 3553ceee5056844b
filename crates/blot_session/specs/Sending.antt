-- The numbers under which a session sends its messages.
use Rattle.std.specs.Prelude.{◌≡◌, ℕ, ◌+◌, Bool, true, false, List, [], ◌∷◌, ◌++◌, Option, Some, None, if◌then◌else◌, flat_map}
use Rattle.blot_fields.specs.declared.head.Head.{Head}
use Rattle.blot_fields.specs.Numbers.{head_in}
use Rattle.blot_session.specs.declared.{action.Action.Action, action.Action.TheVariants.Send, outbound.Outbound.Outbound, row.Row.Row, state.State.State}
use Rattle.blot_session.specs.Calls.{is_spent, row_of_reply}
use Rattle.blot_session.specs.Outbound.{is_gap_fill, next_behind, number_of}
use Rattle.blot_session.specs.Rows.{frame_row, stop_row, tick_row}
use Rattle.blot_session.specs.Runs.{Call, outcome, said_by}
use Rattle.blot_session.specs.Runs.Call.{Frame, Reply, Stop, Tick, WaitAgain}
use Rattle.blot_session.specs.Table.{messages_of}

-- of a message, where this is the next number; a gap fill bears the number of a message that was sent before
abbrev pub number_used : Outbound → ℕ → List ℕ
number_used message next = if is_gap_fill message then [] else number_of message next ∷ []

-- of messages
abbrev pub numbers_from : ℕ → List Outbound → List ℕ
numbers_from next [] = []
numbers_from next (message ∷ messages) = number_used message next ++ numbers_from (next_behind message next) messages

-- of what a row sends: of nothing, where the numbers to send are used up
abbrev pub numbers_by : State → Row → List ℕ
numbers_by state row = if is_spent state row then [] else numbers_from row.state.next (messages_of row.sends)

-- of what a call sends
abbrev pub numbers_sent : State → Call → List ℕ
numbers_sent state (Frame text now true) = numbers_by state (frame_row state (said_by text) now)
numbers_sent state (Reply reply now true) = numbers_by state (row_of_reply state reply)
numbers_sent state (Tick now true) = numbers_by state (tick_row state now)
numbers_sent state (Stop now true) = numbers_by state (stop_row state)
numbers_sent state call = []

-- of what some calls send
abbrev pub all_sent : State → List Call → List ℕ
all_sent state [] = []
all_sent state (call ∷ calls) = numbers_sent state call ++ all_sent (outcome state call).state calls

-- the number of a message with this header, as a reader finds it; none of one that is marked as sent before
abbrev pub number_by : Option Head → List ℕ
number_by (Some head) = if head.dup then [] else head.number ∷ []
number_by None = []

-- of what an action sends
abbrev pub number_borne : Action → List ℕ
number_borne (Send bytes) = number_by (head_in (said_by bytes))
number_borne action = []

-- of what some actions send
abbrev pub numbers_borne : List Action → List ℕ
numbers_borne actions = flat_map number_borne actions

-- numbers count up from the first to before the last
abbrev pub CountUp : ℕ → List ℕ → ℕ → Type 0
CountUp first [] last = last ≡ first
CountUp first (number ∷ numbers) last = (number ≡ first) × CountUp (first + 1) numbers last

-- a call doesn't make the session wait again, which ends the connection
abbrev pub is_of_connection : Call → Bool
is_of_connection WaitAgain = false
is_of_connection call = true
