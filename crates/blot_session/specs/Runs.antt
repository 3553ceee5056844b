-- Lists of calls of a session, and what is delivered, taken and sent over them.
use Rattle.std.specs.Prelude.{◌≡◌, ℕ, ◌+◌, ◌<◌, ◌≤◌, Bool, true, false, ℤ, List, [], ◌∷◌, ◌++◌, map, Option, Some, None, IfSome, option_to_list, Result, Ok, Err, ◌⊎◌, flat_map, option_map}
use Rattle.blot_tag.specs.Fields.{fields_of}
use Rattle.blot_types.specs.declared.command.Command.{Command}
use Rattle.blot_fields.specs.Bringing.{brought}
use Rattle.blot_fields.specs.Decoding.{decoded}
use Rattle.blot_fields.specs.declared.admin.Admin.TheVariants as admin
use Rattle.blot_fields.specs.declared.{fault.FieldFault.FieldFault, message.Body.Body, message.Message.Message}
use Rattle.blot_fields.specs.declared.message.Body.TheVariants as bodies
use Rattle.blot_fields.specs.Numbers.{head_in}
use Rattle.blot_session.specs.declared.{action.Action.Action, replies.NotTaken.NotTaken, replies.SeenReply.SeenReply, state.State.State}
use Rattle.blot_session.specs.declared.action.Action.TheVariants.{Send, Deliver}
use Rattle.blot_session.specs.Calls.{Outcome, on_frame, on_tick, on_stop, on_reply, row_of_reply}
use Rattle.blot_session.specs.States.{waiting_again, closed, IsIdle, IsAwaiting}

-- a call: a frame with this text, the reply to what was delivered, a moment that passes, the end of the day, the end of the connection,
-- and that the session waits again. The truth value says whether there was memory for it
pub data Call : Type 0 where
  Frame : List ℕ → ℤ → Bool → Call
  Reply : Result SeenReply NotTaken → ℤ → Bool → Call
  Tick : ℤ → Bool → Call
  Stop : ℤ → Bool → Call
  Closing : Call
  WaitAgain : Call

-- what a frame with this text says
abbrev pub said_by : List ℕ → Result Message FieldFault
said_by text = decoded (fields_of text)

-- nothing is done
abbrev pub quiet : State → Outcome
quiet state = record { state = state; actions = [] }

-- what a call gives; out of memory the session is closed, and nothing is sent or delivered
abbrev pub outcome : State → Call → Outcome
outcome state (Frame text now true) = on_frame state (said_by text) now
outcome state (Frame text now false) = quiet (closed state)
outcome state (Reply reply now true) = on_reply state reply now
outcome state (Reply reply now false) = quiet (closed (row_of_reply state reply).state)
outcome state (Tick now true) = on_tick state now
outcome state (Tick now false) = quiet (closed state)
outcome state (Stop now true) = on_stop state now
outcome state (Stop now false) = quiet (closed state)
outcome state Closing = quiet (closed state)
outcome state WaitAgain = quiet (waiting_again state)

-- the session after some calls
abbrev pub behind_calls : State → List Call → State
behind_calls state [] = state
behind_calls state (call ∷ calls) = behind_calls (outcome state call).state calls

-- all that is to be done over some calls
abbrev pub actions_of : State → List Call → List Action
actions_of state [] = []
actions_of state (call ∷ calls) = (outcome state call).actions ++ actions_of (outcome state call).state calls

-- a command with the number of its message
pub record Numbered : Type 0 where
  pub number : ℕ
  pub command : Command

-- the command that an action delivers
abbrev pub delivered : Action → Option Command
delivered (Deliver command) = Some command
delivered action = None

-- the commands that some actions deliver, under a number
abbrev pub delivered_by : ℕ → List Action → List Numbered
delivered_by number [] = []
delivered_by number (Deliver command ∷ actions) = record { number = number; command = command } ∷ delivered_by number actions
delivered_by number (action ∷ actions) = delivered_by number actions

-- some actions deliver just this command, or none
abbrev pub DeliversJust : Option Command → List Action → Type 0
DeliversJust command actions = (number : ℕ) → map (λ numbered. numbered.command) (delivered_by number actions) ≡ option_to_list command

-- the command that some actions deliver, if it is just one, is the one that a frame with this text brings by itself
abbrev pub DeliversOwn : List ℕ → List Action → Type 0
DeliversOwn text actions = (found : Option Command) → DeliversJust found actions → IfSome found (λ command. brought text ≡ Some command)

-- what is delivered over some calls: each bears the number that is expected then
abbrev pub delivered_of : State → List Call → List Numbered
delivered_of state [] = []
delivered_of state (call ∷ calls) = delivered_by state.expected (outcome state call).actions ++ delivered_of (outcome state call).state calls

-- what is taken by a call: what was delivered last, where the reply is that it was taken
abbrev pub taken_by : List Numbered → Call → List Numbered
taken_by last (Reply (Ok reply) now memory) = last
taken_by last call = []

-- what is taken over some calls after the call that delivered this
abbrev pub taken_behind : List Numbered → State → List Call → List Numbered
taken_behind last state [] = []
taken_behind last state (call ∷ calls) =
    taken_by last call ++ taken_behind (delivered_by state.expected (outcome state call).actions) (outcome state call).state calls

abbrev pub taken_of : State → List Call → List Numbered
taken_of state calls = taken_behind [] state calls

-- the bytes of an action
abbrev pub bytes_of : Action → List ℕ
bytes_of (Send bytes) = bytes
bytes_of action = []

-- all bytes that are sent over some calls
abbrev pub sent_of : State → List Call → List ℕ
sent_of state calls = flat_map bytes_of (actions_of state calls)

-- ---- the law

-- a call meets its condition: a reply comes where one is awaited, and nothing else does
abbrev pub Meets : State → Call → Type 0
Meets state (Frame text now memory) = IsIdle state
Meets state (Reply reply now memory) = IsAwaiting state
Meets state (Tick now memory) = IsIdle state
Meets state (Stop now memory) = IsIdle state
Meets state Closing = IsIdle state
Meets state WaitAgain = Unit {0}

-- each call does
abbrev pub AreMet : State → List Call → Type 0
AreMet state [] = Unit {0}
AreMet state (call ∷ calls) = Meets state call × AreMet (outcome state call).state calls

-- whether a message resets the numbers: a Logon with ResetSeqNumFlag
abbrev pub is_reset_by : Body → Bool
is_reset_by (bodies.Admin (admin.Logon heartbeat reset)) = reset
is_reset_by body = false

abbrev pub is_reset_said : Result Message FieldFault → Bool
is_reset_said (Ok message) = is_reset_by message.body
is_reset_said (Err fault) = false

abbrev pub is_reset : Call → Bool
is_reset (Frame text now memory) = is_reset_said (said_by text)
is_reset call = false

-- no call resets the numbers
abbrev pub HasNoReset : List Call → Type 0
HasNoReset [] = Unit {0}
HasNoReset (call ∷ calls) = (is_reset call ≡ false) × HasNoReset calls

-- numbers rise from this one on
abbrev pub RiseFrom : ℕ → List Numbered → Type 0
RiseFrom number [] = Unit {0}
RiseFrom number (taken ∷ later) = (number ≤ taken.number) × RiseFrom (taken.number + 1) later

-- they stay below this one
abbrev pub AreBelow : ℕ → List Numbered → Type 0
AreBelow number [] = Unit {0}
AreBelow number (taken ∷ later) = (taken.number < number) × AreBelow number later

-- a frame bears a number
abbrev pub Bears : ℕ → Result Message FieldFault → Type 0
Bears number said = option_map (λ head. head.number) (head_in said) ≡ Some number

-- a frame whose command is delivered bears the number that is expected then
abbrev pub IsBorne : State → Call → Type 0
IsBorne state (Frame text now memory) = (delivered_by state.expected (outcome state (Frame text now memory)).actions ≡ []) ⊎ Bears state.expected (said_by text)
IsBorne state call = Unit {0}

-- so does each of some calls
abbrev pub AreBorne : State → List Call → Type 0
AreBorne state [] = Unit {0}
AreBorne state (call ∷ calls) = IsBorne state call × AreBorne (outcome state call).state calls

-- a message that covers a number, where this one is expected: a Sequence Reset to a higher one. A gap fill has to bear the
-- expected number itself
abbrev pub CoversBy : ℕ → ℕ → Result Message FieldFault → Body → Type 0
CoversBy number expected said (bodies.Admin (admin.SequenceReset new_number true)) =
    Bears expected said × (expected ≤ number) × (number < new_number)
CoversBy number expected said (bodies.Admin (admin.SequenceReset new_number false)) = (expected ≤ number) × (number < new_number)
CoversBy number expected said body = ⊥

abbrev pub Covers : ℕ → ℕ → Result Message FieldFault → Type 0
Covers number expected (Ok message) = CoversBy number expected (Ok message) message.body
Covers number expected (Err fault) = ⊥

-- a call passes a number without a command that is taken: after the call the session expects a higher number, and the frame
-- bears the number, or covers it
abbrev pub Passes : ℕ → State → Call → Type 0
Passes number state (Frame text now memory) =
    (number < (outcome state (Frame text now memory)).state.expected)
    × (((number ≡ state.expected) × Bears number (said_by text)) ⊎ Covers number state.expected (said_by text))
Passes number state call = ⊥

-- some call of a list does
abbrev pub IsPassed : ℕ → State → List Call → Type 0
IsPassed number state [] = ⊥
IsPassed number state (call ∷ calls) = Passes number state call ⊎ IsPassed number (outcome state call).state calls

-- what bears a number is taken
abbrev pub IsTaken : ℕ → List Numbered → Type 0
IsTaken number [] = ⊥
IsTaken number (taken ∷ later) = (taken.number ≡ number) ⊎ IsTaken number later

-- the numbers of what is taken rise from the one expected at first to the one expected at the end, and each number between
-- that isn't taken was passed
pub record IsInOrder (state : State) (calls : List Call) : Type 0 where
  pub rise : RiseFrom state.expected (taken_of state calls)
  pub below : AreBelow (behind_calls state calls).expected (taken_of state calls)
  pub accounted : (number : ℕ) → state.expected ≤ number → number < (behind_calls state calls).expected
      → IsTaken number (taken_of state calls) ⊎ IsPassed number state calls
