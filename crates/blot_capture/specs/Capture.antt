-- What a capture comes to. Each frame goes to the session of its sender, with its own SendingTime as the moment; each command
-- that a session takes goes to the desk.
use Rattle.std.specs.Prelude.{◌≡◌, ℕ, ℤ, pos, Bool, true, false, List, [], ◌∷◌, ◌++◌, map, filter, Option, Some, None, Ok, is_some, if◌then◌else◌, option_map, option_and_then}
use Rattle.std.specs.List.{list_any}
use Rattle.std.specs.Option.{option_map_or}
use Rattle.std.specs.Result.{result_unwrap_or}
use Rattle.blot_time.specs.Moment.{moment_of}
use Rattle.blot_tag.specs.Fields.{Item, fields_of}
use Rattle.blot_tag.specs.Walking.{frames_of}
use Rattle.blot_types.specs.declared.command.Command.{Command}
use Rattle.blot_types.specs.Keys.{same_text}
use Rattle.blot_fields.specs.First.{first_value}
use Rattle.blot_fields.specs.Sender.{sender_of}
use Rattle.blot_session.specs.declared.{replies.SeenReply.TheVariants.Accepted, state.Phase.Phase, state.Phase.TheVariants.Closed, state.State.State}
use Rattle.blot_session.specs.Runs.{Call, outcome, behind_calls, taken_of}
use Rattle.blot_session.specs.Runs.Call.{Frame, Reply, WaitAgain}
use Rattle.blot_session.specs.States.{fresh, phase_of, awaited_of}

-- ---- a frame at its session

-- the moment of some fields: its first field SendingTime(52), or the first moment of 1970 where that isn't there or can't be read
abbrev pub sending_of : List Item → ℤ
sending_of items = option_map_or (λ value. result_unwrap_or (moment_of value) (pos 0)) (first_value 52 items) (pos 0)

-- the moment of a frame
abbrev pub moment_at : List ℕ → ℤ
moment_at text = sending_of (fields_of text)

-- the frame comes to the session
abbrev pub frame_call : List ℕ → Call
frame_call text = Frame text (moment_at text) true

-- what it delivers is taken. The reply says that the book accepts it; after a refusal the session is the same. Only what it sends would
-- be different, and that is dropped here
abbrev pub reply_calls : State → ℤ → List Call
reply_calls state now = if is_some (awaited_of state) then Reply (Ok Accepted) now true ∷ [] else []

-- a session that is closed waits for its next Logon
abbrev pub is_closed_phase : Phase → Bool
is_closed_phase Closed = true
is_closed_phase phase = false

abbrev pub waiting_calls : State → List Call
waiting_calls state = if is_closed_phase (phase_of state) then WaitAgain ∷ [] else []

-- a session after the frame, and after the reply to what that delivered
abbrev pub behind_frame : State → List ℕ → State
behind_frame state text = (outcome state (frame_call text)).state

abbrev pub behind_reply : State → List ℕ → State
behind_reply state text = behind_calls (behind_frame state text) (reply_calls (behind_frame state text) (moment_at text))

-- all calls that a frame comes to
abbrev pub calls_of : State → List ℕ → List Call
calls_of state text = frame_call text ∷ reply_calls (behind_frame state text) (moment_at text) ++ waiting_calls (behind_reply state text)

-- a session after all of them
abbrev pub behind_text : State → List ℕ → State
behind_text state text = behind_calls state (calls_of state text)

-- the commands that are taken in these calls
abbrev pub taken_by : State → List ℕ → List Command
taken_by state text = map (λ taken. taken.command) (taken_of state (calls_of state text))

-- ---- the frames of all peers

-- the session of each peer; one who isn't a peer has none
abbrev pub Sessions : Type 0
Sessions = List ℕ → Option State

-- no peer was heard of yet
abbrev pub first_sessions : List ℕ → List (List ℕ) → Sessions
first_sessions own peers peer = if list_any (λ listed. same_text listed peer) peers then Some (fresh own peer) else None

-- whether a frame is a peer's: its SenderCompID(49) names it
abbrev pub is_from : List ℕ → List ℕ → Bool
is_from peer text = option_map_or (λ sender. same_text sender peer) (sender_of (fields_of text)) false

-- the sessions after a frame: its sender's is the one after the frame's calls, the others are as they were
abbrev pub sessions_behind : Sessions → List ℕ → Sessions
sessions_behind sessions text peer =
    if is_from peer text then option_map (λ state. behind_text state text) (sessions peer) else sessions peer

-- the commands that the session of a frame's sender takes; the frames of others bring none
abbrev pub commands_in : Sessions → List ℕ → List Command
commands_in sessions text = option_map_or (λ state. taken_by state text) (option_and_then sessions (sender_of (fields_of text))) []

-- the commands of some frames, in their order
abbrev pub commands_over : Sessions → List (List ℕ) → List Command
commands_over sessions [] = []
commands_over sessions (text ∷ texts) = commands_in sessions text ++ commands_over (sessions_behind sessions text) texts

-- ---- the law: the commands that the frames of one peer bring are those that its session takes of them

-- the commands of some frames that those of one peer bring
abbrev pub commands_from : List ℕ → Sessions → List (List ℕ) → List Command
commands_from peer sessions [] = []
commands_from peer sessions (text ∷ texts) =
    (if is_from peer text then commands_in sessions text else []) ++ commands_from peer (sessions_behind sessions text) texts

-- all calls of a session over its own frames, one after the other
abbrev pub calls_over : State → List (List ℕ) → List Call
calls_over state [] = []
calls_over state (text ∷ texts) = calls_of state text ++ calls_over (behind_text state text) texts

-- for each listed peer: what `taken_of` says of the calls of its own session, over the frames that are its own
abbrev pub TakesEachPeer : List ℕ → List (List ℕ) → Type 0
TakesEachPeer own peers =
    (peer : List ℕ) (texts : List (List ℕ)) → list_any (λ listed. same_text listed peer) peers ≡ true
    → commands_from peer (first_sessions own peers) texts
    ≡ map (λ taken. taken.command) (taken_of (fresh own peer) (calls_over (fresh own peer) (filter (is_from peer) texts)))

-- ---- a byte stream

-- the commands of a byte stream
abbrev pub commands_of : List ℕ → List (List ℕ) → List ℕ → List Command
commands_of own peers bytes = commands_over (first_sessions own peers) (frames_of bytes)
