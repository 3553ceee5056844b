-- One session, served over a wire: which calls it gets, in which order, and what comes of them.
use Rattle.std.specs.Prelude.{◌≡◌, ℕ, ℤ, ◌<◌, ◌≤◌, ◌⊎◌, Bool, true, false, List, [], ◌∷◌, ◌++◌, length, map, Option, Some, None, Result, Ok, Err, flat_map}
use Rattle.std.specs.List.{list_all}
use Rattle.std.proofs.Common.{inl, inr}
use Rattle.blot_tag.specs.Walking.{frames_of, rest_of}
use Rattle.blot_types.specs.RefusalNames.{refused_number}
use Rattle.blot_session.specs.declared.{action.Action.Action, action.Action.TheVariants.Close, action.CloseReason.CloseReason, replies.NotTaken.NotTaken, replies.SeenReply.SeenReply, state.State.State}
use Rattle.blot_session.specs.declared.replies.SeenReply.TheVariants as seen
use Rattle.blot_session.specs.Runs.{Call, AreMet, actions_of, behind_calls, delivered_of, outcome, sent_of}
use Rattle.blot_session.specs.Runs.Call.{Frame, Reply, Tick}
use Rattle.blot_session.specs.States.{closed}
use Rattle.blot_desk.specs.declared.event.Reply.{Reply as DeskReply}
use Rattle.blot_desk.specs.declared.event.Reply.TheVariants as replies
use Rattle.blot_desk.specs.declared.fault.DeskFault.{DeskFault}
use Rattle.blot_gateway.specs.declared.{ended.Ended.Ended, parties.Parties.Parties, wire.Heard.Heard}
use Rattle.blot_gateway.specs.declared.ended.Ended.TheVariants as ended
use Rattle.blot_gateway.specs.Hearing.{word_in}
use Rattle.blot_gateway.specs.Wires.{Read, Did, Notice, Counts, StepByStep, commands_of, reads_of, written_of}
use Rattle.blot_gateway.specs.Wires.Did.{Gave}
use Rattle.blot_gateway.specs.Wires.Notice.{Handed, HeardOf}
use Rattle.blot_gateway.specs.Wires.Read.{Piece, Silence, AtEnd, Failed}

-- ---- what is due to a session

-- the wire gave this read, a frame with this text came, or a moment passed
pub data Due : Type 0 where
  Fed : Read → Due
  Came : List ℕ → Due
  Passed : Due

-- by these reads, after bytes that hold no frame: each read, and after it the frames of its piece, with the rest of the one before, and
-- then a moment, which also passes where nothing came. Nothing is due after the wire's end or its failure
abbrev pub due_behind : List ℕ → List Read → List Due
due_behind unread [] = []
due_behind unread (Piece bytes ∷ reads) = Fed (Piece bytes) ∷ (map Came (frames_of (unread ++ bytes)) ++ (Passed ∷ due_behind (rest_of (unread ++ bytes)) reads))
due_behind unread (Silence ∷ reads) = Fed Silence ∷ Passed ∷ due_behind unread reads
due_behind unread (read ∷ reads) = Fed read ∷ []

-- after a piece that was read, which is joined to the rest of the one before
abbrev pub due_fed : List ℕ → List Read → List Due
due_fed unread reads = map Came (frames_of unread) ++ (Passed ∷ due_behind (rest_of unread) reads)

-- first the frames of what the reader holds
abbrev pub due_of : List ℕ → List Read → List Due
due_of unread reads = map Came (frames_of unread) ++ due_behind (rest_of unread) reads

-- ---- the calls that are made

-- the frame or the moment that a call tells of
abbrev pub due_by : Call → List Due
due_by (Frame text now memory) = Came text ∷ []
due_by (Tick now memory) = Passed ∷ []
due_by call = []

-- the moments at which they are made
abbrev pub moment_by : Call → List ℤ
moment_by (Frame text now memory) = now ∷ []
moment_by (Reply reply now memory) = now ∷ []
moment_by (Tick now memory) = now ∷ []
moment_by call = []

abbrev pub moments_of : List Call → List ℤ
moments_of calls = flat_map moment_by calls

-- what a session is told of a sink's answer
abbrev pub seen_reply : Result DeskReply DeskFault → Result SeenReply NotTaken
seen_reply (Ok (replies.Accepted number)) = Ok seen.Accepted
seen_reply (Ok (replies.Refused refused)) = Ok (seen.Refused (refused_number refused))
seen_reply answer = Err (record {})

-- what passes between a session and its sink: the session is told how a command was answered, or the sink what a frame came to
abbrev pub noticed_by : Notice → Result SeenReply NotTaken ⊎ (List ℕ × Heard)
noticed_by (Handed answered) = inl (seen_reply answered.answer)
noticed_by (HeardOf text heard) = inr (text, heard)

-- in a call of the session
abbrev pub noticed_in : State → Call → List (Result SeenReply NotTaken ⊎ (List ℕ × Heard))
noticed_in state (Reply reply now memory) = inl reply ∷ []
noticed_in state call = map noticed_by (word_in state call)

-- over some calls
abbrev pub noticed_of : State → List Call → List (Result SeenReply NotTaken ⊎ (List ℕ × Heard))
noticed_of state [] = []
noticed_of state (call ∷ calls) = noticed_in state call ++ noticed_of (outcome state call).state calls

-- a frame, a reply or a moment, and no other call
abbrev pub is_served : Call → Bool
is_served (Frame text now memory) = true
is_served (Reply reply now memory) = true
is_served (Tick now memory) = true
is_served call = false

-- whether there was memory for a call
abbrev pub has_memory : Call → Bool
has_memory (Frame text now memory) = memory
has_memory (Reply reply now memory) = memory
has_memory (Tick now memory) = memory
has_memory call = true

-- the reason of the first Close among some actions
abbrev pub close_in : List Action → Option CloseReason
close_in [] = None
close_in (Close reason ∷ actions) = Some reason
close_in (action ∷ actions) = close_in actions

-- why some calls end the connection, if they do
abbrev pub closed_by : State → List Call → Option CloseReason
closed_by state calls = close_in (actions_of state calls)

-- the calls go on: none ends the connection, and there is memory for each
pub record GoesOn (state : State) (calls : List Call) : Type 0 where
  pub stays : closed_by state calls ≡ None
  pub memory : list_all has_memory calls ≡ true

-- ---- how they end

-- the calls go on, up to the last
pub record HasLast (state : State) (calls : List Call) : Type 0 where
  pub earlier : List Call
  pub last : Call
  pub joined : calls ≡ earlier ++ (last ∷ [])
  pub goes_on : GoesOn state earlier

-- the last call ends the connection for this reason
pub record ClosesLast (reason : CloseReason) (state : State) (calls : List Call) : Type 0 where
  pub until : HasLast state calls
  pub memory : has_memory until.last ≡ true
  pub closes : closed_by (behind_calls state until.earlier) (until.last ∷ []) ≡ Some reason

-- there is memory for the last call too
pub record EndsAtLast (state : State) (calls : List Call) : Type 0 where
  pub until : HasLast state calls
  pub memory : has_memory until.last ≡ true

-- there is none for the last call
pub record RunsOutLast (state : State) (calls : List Call) : Type 0 where
  pub until : HasLast state calls
  pub memory : has_memory until.last ≡ false

-- why no further call is made: the last one ended the connection; what it sends couldn't be written; memory ran out in it, or
-- between two calls; or the wire ended, failed, or was read too often
abbrev pub Stops : Ended → State → List Call → Type 0
Stops (ended.Closed reason) state calls = ClosesLast reason state calls
Stops ended.WriteFault state calls = EndsAtLast state calls
Stops ended.NoMemory state calls = GoesOn state calls ⊎ RunsOutLast state calls
Stops end state calls = GoesOn state calls

-- the last of some reads
pub record EndsWith (read : Read) (reads : List Read) : Type 0 where
  pub earlier : List Read
  pub joined : reads ≡ earlier ++ (read ∷ [])

-- what the wire did then. All that was due is done, where it is the wire that ends the session
abbrev pub Cause : Ended → List Read → List Due → Type 0
Cause ended.End reads left = EndsWith AtEnd reads × (left ≡ [])
Cause ended.ReadFault reads left = EndsWith Failed reads × (left ≡ [])
Cause ended.TooLong reads left = left ≡ []
Cause end reads left = Unit {0}

-- a front of a text, and not the whole
pub record IsFront (front text : List ℕ) : Type 0 where
  pub back : List ℕ
  pub joined : front ++ back ≡ text
  pub short : 0 < length back

-- the same texts, but of the last a front
pub record LosesLast (written sent : List (List ℕ)) : Type 0 where
  pub earlier : List (List ℕ)
  pub front : List ℕ
  pub last : List ℕ
  pub written_is : written ≡ earlier ++ (front ∷ [])
  pub sent_is : sent ≡ earlier ++ (last ∷ [])
  pub is_front : IsFront front last

-- what was written of what each call sends: all, or where a write failed a front of the last
abbrev pub Wrote : Ended → List (List ℕ) → List (List ℕ) → Type 0
Wrote ended.WriteFault written sent = LosesLast written sent
Wrote end written sent = written ≡ sent

-- a failure is counted, where the wire failed
abbrev pub IsCounted : ℕ → ℕ → Ended → Type 0
IsCounted before after ended.ReadFault = Counts before after
IsCounted before after ended.WriteFault = Counts before after
IsCounted before after end = before ≤ after

-- ---- turns

-- a read is made; or the session gets a call, and then the wire does this
pub data Turn : Type 0 where
  Reads : Read → Turn
  Calls : Call → List Did → Turn

-- the call of a turn
abbrev pub call_in : Turn → List Call
call_in (Reads read) = []
call_in (Calls call dids) = call ∷ []

-- what the wire does in it
abbrev pub did_in : Turn → List Did
did_in (Reads read) = Gave read ∷ []
did_in (Calls call dids) = dids

-- the part of what is due that is done in it
abbrev pub due_in : Turn → List Due
due_in (Reads read) = Fed read ∷ []
due_in (Calls call dids) = due_by call

-- the reads after its call, within the turn
abbrev pub reads_behind : Turn → List Read
reads_behind (Reads read) = []
reads_behind (Calls call dids) = reads_of dids

-- the text that is written after its call
abbrev pub written_in : Turn → List (List ℕ)
written_in (Reads read) = []
written_in (Calls call dids) = written_of dids ∷ []

-- the text that each of some calls sends
abbrev pub texts_of : State → List Call → List (List ℕ)
texts_of state [] = []
texts_of state (call ∷ calls) = sent_of state (call ∷ []) ∷ texts_of (outcome state call).state calls

-- these calls, and what the wire did, in turn: a front of what is due is done, in its order, and this is left; the wire gave these
-- reads, none of them in the turn of a call; and after each call, before anything else, it took what the call sends, as far as `wrote` says
pub record InTurn (wrote : List (List ℕ) → List (List ℕ) → Type 0) (state : State) (calls : List Call) (dids : List Did)
    (due : List Due) (reads : List Read) (left : List Due) : Type 0 where
  pub turns : List Turn
  pub called : flat_map call_in turns ≡ calls
  pub did : flat_map did_in turns ≡ dids
  pub done : flat_map due_in turns ++ left ≡ due
  pub read : reads_of dids ≡ reads
  pub apart : flat_map reads_behind turns ≡ []
  pub written : wrote (flat_map written_in turns) (texts_of state calls)

-- ---- the parties of a session

-- these, as one value
abbrev pub parties : {W C S : Type 0} → W → C → S → State → Parties W C S
parties wire clock sink session = record { wire = wire; clock = clock; sink = sink; session = session }

-- what happens between them over some calls: each call comes at the clock's next moment; after each delivery, and only there, comes a
-- reply, which is the sink's answer; and of each other frame the sink hears what it came to
pub record Happens {W C S : Type 0} (does : W → Did → W → Type 0) (ticks : C → ℤ → C → Type 0) (takes : S → Notice → S → Type 0)
    (before : Parties W C S) (calls : List Call) (dids : List Did) (notices : List Notice) (after : Parties W C S) : Type 0 where
  pub session : after.session ≡ behind_calls before.session calls
  pub served : list_all is_served calls ≡ true
  pub met : AreMet before.session calls
  pub clock : StepByStep ticks before.clock (moments_of calls) after.clock
  pub sink : StepByStep takes before.sink notices after.sink
  pub told : map noticed_by notices ≡ noticed_of before.session calls
  pub wire : StepByStep does before.wire dids after.wire

-- calls that go on, in turn; the sink is handed what the session delivers, in order, each once; and all is written that is sent
pub record Runs {W C S : Type 0} (does : W → Did → W → Type 0) (ticks : C → ℤ → C → Type 0) (takes : S → Notice → S → Type 0)
    (before : Parties W C S) (due : List Due) (reads : List Read) (left : List Due) (after : Parties W C S) : Type 0 where
  pub calls : List Call
  pub dids : List Did
  pub notices : List Notice
  pub happens : Happens does ticks takes before calls dids notices after
  pub in_turn : InTurn (λ written sent. written ≡ sent) before.session calls dids due reads left
  pub handed : commands_of notices ≡ map (λ numbered. numbered.command) (delivered_of before.session calls)
  pub goes_on : GoesOn before.session calls

-- calls that end so, in turn
pub record Ends {W C S : Type 0} (does : W → Did → W → Type 0) (ticks : C → ℤ → C → Type 0) (takes : S → Notice → S → Type 0)
    (end : Ended) (before : Parties W C S) (due : List Due) (reads : List Read) (after : Parties W C S) : Type 0 where
  pub calls : List Call
  pub dids : List Did
  pub notices : List Notice
  pub left : List Due
  pub happens : Happens does ticks takes before calls dids notices after
  pub in_turn : InTurn (Wrote end) before.session calls dids due reads left
  pub handed : commands_of notices ≡ map (λ numbered. numbered.command) (delivered_of before.session calls)
  pub stops : Stops end before.session calls
  pub cause : Cause end reads left

-- ---- one session

-- after an end or a fault a session is closed; one that ended the connection itself is closed already
abbrev pub left_by : Ended → State → State
left_by (ended.Closed reason) state = state
left_by end state = closed state

-- the wire gave some reads, no more than this many, which led to calls that end so; where it was read too often, they are just this many
pub record EndsWithin {W C S : Type 0} (does : W → Did → W → Type 0) (ticks : C → ℤ → C → Type 0) (takes : S → Notice → S → Type 0)
    (most : ℕ) (end : Ended) (before : Parties W C S) (due : List Read → List Due) (after : Parties W C S) : Type 0 where
  pub reads : List Read
  pub few : length reads ≤ most
  pub long : end ≡ ended.TooLong → length reads ≡ most
  pub ends : Ends does ticks takes end before (due reads) reads after

-- after what the reader held, the wire's reads led to calls that end so
pub record Served {W C S : Type 0} (does : W → Did → W → Type 0) (ticks : C → ℤ → C → Type 0) (takes : S → Notice → S → Type 0)
    (most : ℕ) (end : Ended) (before : Parties W C S) (unread : List ℕ) (after : Parties W C S) : Type 0 where
  pub last : State
  pub within : EndsWithin does ticks takes most end before (due_of unread) (record after { session = last })
  pub closed : after.session ≡ left_by end last
