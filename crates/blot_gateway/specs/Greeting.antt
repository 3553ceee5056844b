-- The first message of a connection.
use Rattle.std.specs.Prelude.{◌≡◌, ◌≤◌, ◌⊎◌, ℕ, List, [], ◌∷◌, ◌++◌, length, map, slice_get, Bool, true, false, Option, Some, None, Result, Ok, Err, if◌then◌else◌}
use Rattle.blot_tag.specs.Walking.{frames_of, rest_of}
use Rattle.blot_types.specs.Keys.{same_text}
use Rattle.blot_fields.specs.declared.admin.Admin.TheVariants as admin
use Rattle.blot_fields.specs.declared.{fault.FieldFault.FieldFault, message.Body.Body, message.Message.Message}
use Rattle.blot_fields.specs.declared.message.Body.TheVariants as bodies
use Rattle.blot_session.specs.declared.action.CloseReason.{CloseReason}
use Rattle.blot_session.specs.declared.action.CloseReason.TheVariants as reasons
use Rattle.blot_session.specs.Runs.{said_by}
use Rattle.blot_gateway.specs.declared.ended.Ended.{Ended}
use Rattle.blot_gateway.specs.declared.ended.Ended.TheVariants as ended
use Rattle.blot_gateway.specs.Serving.{EndsWith}
use Rattle.blot_gateway.specs.Wires.{Read, Did, StepByStep}
use Rattle.blot_gateway.specs.Wires.Did.{Gave}
use Rattle.blot_gateway.specs.Wires.Read.{Piece, AtEnd, Failed}

-- whether a message is a Logon
abbrev pub is_logon : Body → Bool
is_logon (bodies.Admin (admin.Logon heartbeat reset)) = true
is_logon body = false

-- who speaks, by the first message: a Logon without fault that names this blotter as its target
abbrev pub greeted_by_message : List ℕ → Message → Result (List ℕ) CloseReason
greeted_by_message own message =
    if is_logon message.body then (if same_text message.head.target own then Ok message.head.sender else Err reasons.CompId) else Err reasons.NoLogon

abbrev pub greeted_by : List ℕ → Result Message FieldFault → Result (List ℕ) CloseReason
greeted_by own (Ok message) = greeted_by_message own message
greeted_by own (Err fault) = Err reasons.NoLogon

-- the bytes of some reads
abbrev pub bytes_in : Read → List ℕ
bytes_in (Piece bytes) = bytes
bytes_in read = []

-- all the bytes after some reads: those that were there at first, and those that came
abbrev pub fed : List ℕ → List Read → List ℕ
fed unread [] = unread
fed unread (read ∷ reads) = fed (unread ++ bytes_in read) reads

-- what a reader holds of them: before each read it passes over what can't become a frame
abbrev pub bytes_held : List ℕ → List Read → List ℕ
bytes_held unread [] = unread
bytes_held unread (read ∷ reads) = bytes_held (rest_of unread ++ bytes_in read) reads

-- a reader holds that, and so the same frames as stand in all the bytes
pub record HoldsReads (unread : List ℕ) (reads : List Read) (left : List ℕ) : Type 0 where
  pub bytes : left ≡ bytes_held unread reads
  pub frames : frames_of left ≡ frames_of (fed unread reads)

-- no frame stands in all the bytes before any of the reads
abbrev pub AwaitsFrame : List ℕ → List Read → Type 0
AwaitsFrame unread [] = Unit {0}
AwaitsFrame unread (read ∷ reads) = (frames_of unread ≡ []) × AwaitsFrame (unread ++ bytes_in read) reads

-- ---- the reads up to the first message

-- what the first frame there says of who speaks
pub record Speaks (own unread : List ℕ) (answer : Result (List ℕ) CloseReason) : Type 0 where
  pub text : List ℕ
  pub first : slice_get (frames_of unread) 0 ≡ Some text
  pub greets : greeted_by own (said_by text) ≡ answer

-- a look at the first frame, if one stands there
abbrev pub PeeksBy : List ℕ → List ℕ → Option (Result (List ℕ) Ended) → Type 0
PeeksBy own unread None = frames_of unread ≡ []
PeeksBy own unread (Some (Ok sender)) = Speaks own unread (Ok sender)
PeeksBy own unread (Some (Err (ended.Closed reason))) = Speaks own unread (Err reason)
PeeksBy own unread (Some (Err end)) = end ≡ ended.NoMemory

-- one read, whose bytes then stand after the unread ones
pub record Feeds {W : Type 0} (does : W → Did → W → Type 0) (before : W) (unread : List ℕ) (after : W) (left : List ℕ) : Type 0 where
  pub read : Read
  pub gave : does before (Gave read) after
  pub holds : left ≡ unread ++ bytes_in read

-- one read that ends the greeting: the wire's end, its failure, or no memory for the bytes
abbrev pub ReadEnds : Ended → Read → Type 0
ReadEnds ended.End read = read ≡ AtEnd
ReadEnds ended.ReadFault read = read ≡ Failed
ReadEnds ended.NoMemory read = Unit {0}
ReadEnds end read = ⊥

pub record FeedsLast {W : Type 0} (does : W → Did → W → Type 0) (before : W) (unread : List ℕ) (after : W) (left : List ℕ) (end : Ended) : Type 0 where
  pub read : Read
  pub gave : does before (Gave read) after
  pub ends : ReadEnds end read
  pub holds : left ≡ unread

-- why a greeting of so many reads at most is answered so, after these reads, by all the bytes
abbrev pub GreetsBy : List ℕ → ℕ → Result (List ℕ) Ended → List Read → List ℕ → Type 0
GreetsBy own most (Ok sender) reads bytes = Speaks own bytes (Ok sender)
GreetsBy own most (Err (ended.Closed reason)) reads bytes = Speaks own bytes (Err reason)
GreetsBy own most (Err ended.End) reads bytes = EndsWith AtEnd reads
GreetsBy own most (Err ended.ReadFault) reads bytes = EndsWith Failed reads
GreetsBy own most (Err ended.TooLong) reads bytes = (length reads ≡ most) × (frames_of bytes ≡ [])
GreetsBy own most (Err ended.NoGreeting) reads bytes = (length reads ≡ most) × (frames_of bytes ≡ [])
GreetsBy own most (Err ended.NoMemory) reads bytes = Unit {0}
GreetsBy own most (Err ended.WriteFault) reads bytes = ⊥

-- the wire gave some reads, and nothing was written; no frame stood in all the bytes before any of them; and the reader holds the frames
-- that stand there then, with what came after them, unless memory ran out
pub record Greeted {W : Type 0} (does : W → Did → W → Type 0) (own : List ℕ) (most : ℕ) (answer : Result (List ℕ) Ended) (before : W) (unread : List ℕ) (after : W) (left : List ℕ) : Type 0 where
  pub reads : List Read
  pub few : length reads ≤ most
  pub steps : StepByStep does before (map Gave reads) after
  pub awaits : AwaitsFrame unread reads
  pub holds : HoldsReads unread reads left ⊎ (answer ≡ Err ended.NoMemory)
  pub greets : GreetsBy own most answer reads (fed unread reads)
