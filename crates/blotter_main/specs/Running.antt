-- What a run of the program did.
use Rattle.std.specs.Prelude.{◌≡◌, ℕ, ℤ, Bool, true, List, ◌++◌, map, Option, Some, None, IfSome, flat_map}
use Rattle.std.specs.List.{list_all}
use Rattle.std.specs.Io.KnownBytes.{Appends, IsAtEnd}
use Rattle.blot_desk.specs.declared.{event.Event.Event, receipt.Receipt.Receipt}
use Rattle.blot_desk.specs.Desk.{DeskState, IsRun}
use Rattle.blot_stream.specs.Texts.{AppendsOf, lines_of}
use Rattle.blot_capture.specs.Replay.{replay_of}
use Rattle.blot_trail.specs.Audit.{trail_of}
use Rattle.blot_operator.specs.Operating.{answers_of}
use Rattle.blot_operator.specs.OpenDay.{EndsOf}
use Rattle.blotter.specs.Keeping.{KeptDayServed, ServesStaffed}
use Rattle.blotter.specs.Serving.{DayServed, OpenDayServed, StaffedDayServed}
use Rattle.blot_arguments.specs.declared.words.Words.{Words}
use Rattle.blot_arguments.specs.Words.{journal_named, operators_named}
use Rattle.blot_arguments.specs.declared.words.Words.TheVariants.{Replay, Desk, Audit, Open, Serve, Ask}
use Rattle.blot_ask.specs.Asking.{Turn, is_turn, shown_last, shown_of}

-- a day is served that is kept in a journal, from some text that this had when it was opened, on; or that was new
abbrev pub ServesJournal : List ℕ → Option (List ℕ) → ℤ → Option (List ℕ) → Option (List ℕ) → Type 0
ServesJournal own input day before after = (found : List ℕ) × ((events : List Event) × KeptDayServed own found events input day before after)

-- the answers to some lines stand there, of a desk that is the run of its events
abbrev pub AnswersDesk : Option (List ℕ) → Option (List ℕ) → Option (List ℕ) → Type 0
AnswersDesk input before after = (desk : DeskState) × IsRun desk × AppendsOf (answers_of desk) input before after

-- the trail of what a journal received stands there
abbrev pub AuditsJournal : List ℕ → List (List ℕ) → Option (List ℕ) → Option (List ℕ) → Type 0
AuditsJournal own peers before after = (received : List ℕ) × AppendsOf (trail_of own peers) (Some received) before after

-- an audit is done: of a journal, where a file is named, and else of the input
abbrev pub DidAudit : Option (List ℕ) → List ℕ → List (List ℕ) → Option (List ℕ) → Option (List ℕ) → Option (List ℕ) → Option (List ℕ) → Type 0
DidAudit None own peers input left before after = IsAtEnd left × AppendsOf (trail_of own peers) input before after
DidAudit (Some file) own peers input left before after = AuditsJournal own peers before after

-- an open day is served, and kept where a file is named
abbrev pub DidServe : Option (List ℕ) → List ℕ → Option (List ℕ) → ℤ → Option (List ℕ) → Option (List ℕ) → Type 0
DidServe None own input day before after = OpenDayServed input day before after
DidServe (Some file) own input day before after = ServesJournal own input day before after

-- a day is kept whose operators come over a socket
abbrev pub KeepsStaffed : ℤ → Option (List ℕ) → Option (List ℕ) → Type 0
KeepsStaffed day before after = (events : List Event) × ServesStaffed events day before after

-- a day is served whose operators come over a socket, and kept in a journal where one is named
abbrev pub DidStaff : Option (List ℕ) → ℤ → Option (List ℕ) → Option (List ℕ) → Type 0
DidStaff None day before after = StaffedDayServed day before after
DidStaff (Some file) day before after = KeepsStaffed day before after

-- an open day: its operator's lines come by the input, or nothing is read of it where operators come over a socket
abbrev pub DidOpen : Option (List ℕ) → Option (List ℕ) → List ℕ → Option (List ℕ) → Option (List ℕ) → ℤ → Option (List ℕ) → Option (List ℕ) → Type 0
DidOpen None journal own input left day before after = EndsOf true input left × DidServe journal own input day before after
DidOpen (Some socket) journal own input left day before after = (left ≡ input) × DidStaff journal day before after

-- a served day is asked: each line of the input is answered, or is blank, and there stand the answers, with prompts or without
abbrev pub DidAsk : Bool → Option (List ℕ) → Option (List ℕ) → Option (List ℕ) → Type 0
DidAsk prompts input before after =
    (turns : List Turn) × IfSome input (λ bytes. map (λ turn. turn.line) turns ≡ lines_of bytes) × (list_all is_turn turns ≡ true)
    × Appends before after (flat_map (shown_of prompts) turns ++ shown_last prompts)

-- what the words ask for was done, where `round` says what a round under a CompID does to the seats. Of a replay, the input is read to
-- its end, and the report of the day stands after what was written; of a desk, the input is read to its end, and there stand the answers
-- to its lines, of a desk as the capture or the journal left it; of an audit, there stands its trail; of an open day, the
-- input is read to its end or to a line that closes the day, there stand the answers to its lines, and after them the report of a settled
-- history, or that report alone where the operators come over a socket; of a day of rounds, the input is read to its end, there stand the answers to its lines, and after them the report of a settled
-- history, in which the brokers' seats are as so many rounds of so many connections left them; of a client, the input is read to its end,
-- and there stand the answers of the day to its lines, with prompts where these are wanted
abbrev pub Did : Bool → (List ℕ → List (List Receipt) → List (List Receipt) → Type 0) → Words → Option (List ℕ) → Option (List ℕ) → Option (List ℕ) → Option (List ℕ) → Type 0
Did prompts round (Replay own day peers) input left before after =
    IsAtEnd left × AppendsOf (replay_of own peers.items day) input before after
Did prompts round (Desk own from peers) input left before after =
    IsAtEnd left × ((desk : DeskState) × AppendsOf (answers_of desk) input before after)
Did prompts round (Audit own journal peers) input left before after =
    DidAudit (journal_named (Audit own journal peers)) own peers.items input left before after
Did prompts round (Open own day port lanes journal operators peers) input left before after =
    DidOpen (operators_named (Open own day port lanes journal operators peers)) (journal_named (Open own day port lanes journal operators peers)) own input left day before after
Did prompts round (Serve own day port sessions rounds peers) input left before after =
    IsAtEnd left × DayServed (round own) rounds input sessions day before after
Did prompts round (Ask path name) input left before after = IsAtEnd left × DidAsk prompts input before after
