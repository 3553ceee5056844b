-- What a day that is served comes to.
use Rattle.std.specs.Prelude.{◌≡◌, ◌<◌, ℕ, ℤ, true, List, [], ◌∷◌, ◌++◌, codes, length, replicate, Option, All}
use Rattle.std.specs.List.{list_all}
use Rattle.std.specs.Io.KnownBytes.{Appends}
use Rattle.blot_desk.specs.declared.{event.Event.Event, event.Recorded.Recorded, fault.DeskFault.DeskFault, receipt.Receipt.Receipt}
use Rattle.blot_desk.specs.declared.fault.DeskFault.TheVariants as desk
use Rattle.blot_desk.specs.Desk.{events_of, run_of}
use Rattle.blot_desk.specs.Keeping.{kept_events}
use Rattle.blot_desk.specs.Receipts.{IsSettled}
use Rattle.blot_report.specs.Text.{report_of}
use Rattle.blot_gateway.specs.AtOnce.{are_submits}
use Rattle.blot_stream.specs.declared.outcome.ServeFault.{ServeFault}
use Rattle.blot_stream.specs.declared.outcome.ServeFault.TheVariants as fault
use Rattle.blot_operator.specs.Dialogue.{HeardOf, TellsOf, open_ways, seat_ways}
use Rattle.blot_operator.specs.Seats.{Named}
use Rattle.blot_lanes.specs.Listing.{Listed}
use Rattle.blotter.specs.Rounds.{RoundsLead}

-- the report of a day is written, of this history, in which each receipt of these seats stands once, and in which each reply is that of the run of
-- its events
pub record ReportedOf (history : List Recorded) (day : ℤ) (seats : List (List Receipt)) (before after : Option (List ℕ)) : Type 0 where
  pub settled : IsSettled history seats
  pub replied : (run_of (events_of history)).history ≡ history
  pub written : Appends before after (report_of (run_of (events_of history)).book.list day)

-- it is written of some such history
abbrev pub Reported : ℤ → List (List Receipt) → Option (List ℕ) → Option (List ℕ) → Type 0
Reported day seats before after = (history : List Recorded) × ReportedOf history day seats before after

-- and where events are kept, they are that history's, asks aside
pub record KeptReported (IsKept : Type 0) (events : List Event) (day : ℤ) (seats : List (List Receipt)) (before after : Option (List ℕ)) : Type 0 where
  pub history : List Recorded
  pub reported : ReportedOf history day seats before after
  pub kept : IsKept → events ≡ kept_events history

-- a day is served: so many rounds lead from so many empty seats to those of the brokers, whose receipts are of submits alone; the
-- operator, with a seat that was empty, is told the answers to all lines of the input; and then the report is written of the history of
-- all these receipts
pub record DayServed (round : List (List Receipt) → List (List Receipt) → Type 0) (rounds : ℕ) (input : Option (List ℕ)) (sessions : ℕ) (day : ℤ)
    (before after : Option (List ℕ)) : Type 0 where
  pub brokers : List (List Receipt)
  pub operator : List Receipt
  pub between : Option (List ℕ)
  pub served : RoundsLead round rounds (replicate sessions []) brokers
  pub count : length brokers ≡ sessions
  pub submits : list_all are_submits brokers ≡ true
  pub told : TellsOf seat_ways [] input operator before between
  pub reported : Reported day (brokers ++ (operator ∷ [])) between after

-- a day of fewer rounds is served
abbrev pub DayCutShort : (List (List Receipt) → List (List Receipt) → Type 0)
    → ℕ → Option (List ℕ) → ℕ → ℤ → Option (List ℕ) → Option (List ℕ) → Type 0
DayCutShort round rounds input sessions day before after =
    (count : ℕ) × (count < rounds) × DayServed round count input sessions day before after

-- a listed peer of a day that begins: its seat has no receipts, and its session is at number 1 both ways
abbrev pub begins_as : List ℕ → Listed
begins_as peer = record { peer = peer; receipts = []; expected = 1; next = 1 }

-- the operator of this seat is told the answers to the lines of an input, to its end or to the first that closes the day, while brokers are
-- served; and these are the seats then: those of the brokers, whose receipts are of submits alone, the operator's, and the others as they were
pub record ServedBy (IsKept : Type 0) (seat : Named) (others : List (List Receipt)) (input : Option (List ℕ)) (before after : Option (List ℕ))
    (seats : List (List Receipt)) : Type 0 where
  pub brokers : List (List Receipt)
  pub operator : Named
  pub submits : All (λ receipts. are_submits receipts ≡ true) brokers
  pub told : HeardOf (open_ways IsKept) seat input operator before after
  pub seats_are : seats ≡ (brokers ++ (operator.receipts ∷ [])) ++ others

-- an open day is served: the operator, with a seat that was empty, is told the answers to the lines of the input, and then the report is written of
-- the history of all receipts
pub record OpenDayServed (input : Option (List ℕ)) (day : ℤ) (before after : Option (List ℕ)) : Type 0 where
  pub between : Option (List ℕ)
  pub seats : List (List Receipt)
  pub served : ServedBy ⊥ (record { name = codes "operator"; receipts = [] }) [] input before between seats
  pub reported : Reported day seats between after

-- a day is served whose operators come over a socket: the report is written of the history of all receipts
abbrev pub StaffedDayServed : ℤ → Option (List ℕ) → Option (List ℕ) → Type 0
StaffedDayServed day before after = (seats : List (List Receipt)) × Reported day seats before after

-- what is told of a desk that isn't settled: receipts that disagree are told as that, and never as want of memory
abbrev pub settling_fault : DeskFault → ServeFault
settling_fault desk.Unsettled = fault.Unsettled
settling_fault desk.NoMemory = fault.NoMemory
settling_fault desk.Broken = fault.NoMemory
settling_fault desk.Full = fault.NoMemory
