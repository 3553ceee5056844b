-- What a wire gives and takes, and what a sink answers.
use Rattle.std.specs.Prelude.{◌≡◌, ℕ, ◌≤◌, ◌<◌, ◌-◌, ◌^◌, ◌⊎◌, List, [], ◌∷◌, take, Result, flat_map}
use Rattle.blot_types.specs.declared.command.Command.{Command}
use Rattle.blot_desk.specs.declared.{event.Reply.Reply, fault.DeskFault.DeskFault}
use Rattle.blot_gateway.specs.declared.{wire.Heard.Heard, wire.Reading.Reading, wire.Writing.Writing}
use Rattle.blot_gateway.specs.declared.wire.Reading.TheVariants as reading
use Rattle.blot_gateway.specs.declared.wire.Writing.TheVariants as writing

-- one read of a wire: these bytes came, nothing came in time, the wire is at its end, or it failed
pub data Read : Type 0 where
  Piece : List ℕ → Read
  Silence : Read
  AtEnd : Read
  Failed : Read

-- what a wire does: a read, a write that takes these bytes, a write that fails
pub data Did : Type 0 where
  Gave : Read → Did
  Took : List ℕ → Did
  Refused : Did

-- a command that was handed to a sink, and its answer
pub record Answered : Type 0 where
  pub command : Command
  pub answer : Result Reply DeskFault

-- what a sink gets: a command, which it answers, or word of a frame with this text, of which none was delivered
pub data Notice : Type 0 where
  Handed : Answered → Notice
  HeardOf : List ℕ → Heard → Notice

-- what a sink of commands alone does: it hears of nothing
abbrev pub hands : {S : Type 0} → (S → Answered → S → Type 0) → S → Notice → S → Type 0
hands takes before (Handed answered) after = takes before answered after
hands takes before (HeardOf text heard) after = after ≡ before

-- the command of a notice
abbrev pub command_in : Notice → List Command
command_in (Handed answered) = answered.command ∷ []
command_in (HeardOf text heard) = []

-- the commands among some notices
abbrev pub commands_of : List Notice → List Command
commands_of notices = flat_map command_in notices

-- a read, by its answer and the buffer after it
abbrev pub read_by : Reading → List ℕ → Read
read_by (reading.Got count) buffer = Piece (take count buffer)
read_by reading.Quiet buffer = Silence
read_by reading.End buffer = AtEnd
read_by reading.Fault buffer = Failed

-- a write, by its answer and the text
abbrev pub written_by : Writing → List ℕ → Did
written_by (writing.Wrote count) text = Took (take count text)
written_by writing.Fault text = Refused

-- a count of bytes is at least 1, and no more than there is room or text for
abbrev pub ReadFits : Reading → ℕ → Type 0
ReadFits (reading.Got count) room = (1 ≤ count) × (count ≤ room)
ReadFits reading room = Unit {0}

abbrev pub WriteFits : Writing → ℕ → Type 0
WriteFits (writing.Wrote count) room = (1 ≤ count) × (count ≤ room)
WriteFits writing.Fault room = Unit {0}

-- a failure is counted, or the count is at its end
pub record Counts (before after : ℕ) : Type 0 where
  pub kept : before ≤ after
  pub more : (before < after) ⊎ (2 ^ 64 - 1 ≤ after)

-- a failure is counted, and nothing else is
abbrev pub CountsRead : Reading → ℕ → ℕ → Type 0
CountsRead reading.Fault before after = Counts before after
CountsRead reading before after = after ≡ before

abbrev pub CountsWrite : Writing → ℕ → ℕ → Type 0
CountsWrite writing.Fault before after = Counts before after
CountsWrite (writing.Wrote count) before after = after ≡ before

-- these things happen step by step, one after the other
abbrev pub StepByStep : {S E : Type 0} → (S → E → S → Type 0) → S → List E → S → Type 0
StepByStep does before [] after = after ≡ before
StepByStep {S = S} does before (event ∷ events) after = (between : S) × does before event between × StepByStep does between events after

-- the reads among what a wire did
abbrev pub read_in : Did → List Read
read_in (Gave read) = read ∷ []
read_in did = []

abbrev pub reads_of : List Did → List Read
reads_of dids = flat_map read_in dids

-- the bytes that it took
abbrev pub taken_in : Did → List ℕ
taken_in (Took bytes) = bytes
taken_in did = []

abbrev pub written_of : List Did → List ℕ
written_of dids = flat_map taken_in dids
