-- What a desk comes to by a capture, and the report of its day.
use Rattle.std.specs.Prelude.{◌≡◌, ℕ, ℤ, ◌<◌, ◌≤◌, List, ◌++◌, length, map, fold, Option, Some, None, IfSome}
use Rattle.blot_tag.specs.Walking.{frames_of}
use Rattle.blot_types.specs.declared.{command.Command.Command, command.Entry.Entry, TheConstants.EVENTS_MAX}
use Rattle.blot_desk.specs.declared.{event.Event.TheVariants.Submit, fault.DeskFault.DeskFault}
use Rattle.blot_desk.specs.declared.fault.DeskFault.TheVariants as faults
use Rattle.blot_desk.specs.Desk.{DeskState, empty_desk, recorded_of, run_of}
use Rattle.blot_report.specs.Text.{report_of}
use Rattle.blot_stream.specs.declared.outcome.ReplayFault.{ReplayFault}
use Rattle.blot_stream.specs.declared.outcome.ReplayFault.TheVariants.{Full, NoMemory}
use Rattle.blot_capture.specs.Capture.{Sessions, commands_over, commands_of, first_sessions}

-- what a desk holds when some commands were submitted, in their order
abbrev pub submitted : DeskState → List Command → DeskState
submitted desk commands = fold (λ before command. recorded_of before (Submit command)) desk commands

-- a fault of a step, as a capture's: the desk is full, or memory ran out. No step answers Unsettled or Broken
abbrev pub fault_of : DeskFault → ReplayFault
fault_of faults.Full = Full
fault_of faults.NoMemory = NoMemory
fault_of faults.Broken = NoMemory
fault_of faults.Unsettled = NoMemory

-- a front of some commands was submitted to a desk, and then a fault came. Full is answered only where as many events are recorded
-- as a day has, and a further command came
pub record Stopped (before after : DeskState) (commands : List Command) (fault : ReplayFault) : Type 0 where
  pub front : List Command
  pub back : List Command
  pub joined : front ++ back ≡ commands
  pub taken : after ≡ submitted before front
  pub full : fault ≡ Full → (length after.history ≡ EVENTS_MAX) × (0 < length back)

-- the desk that a capture leads to, from the empty one
abbrev pub captured_by : List ℕ → List (List ℕ) → List ℕ → DeskState
captured_by own peers bytes = submitted empty_desk (commands_of own peers bytes)

-- the live list that a capture leads to: that of the run of its commands, each submitted, from the empty book
abbrev pub list_of : List ℕ → List (List ℕ) → List ℕ → List Entry
list_of own peers bytes = (run_of (map Submit (commands_of own peers bytes))).book.list

-- the report of a day of a byte stream
abbrev pub replay_of : List ℕ → List (List ℕ) → ℤ → List ℕ → List ℕ
replay_of own peers day bytes = report_of (list_of own peers bytes) day

-- ---- a capture that is partly taken

-- the sessions and the desk as they are
pub record Taking : Type 0 where
  pub sessions : Sessions
  pub desk : DeskState

-- no peer was heard of yet, and the desk holds this
abbrev pub taking_from : List ℕ → List (List ℕ) → DeskState → Taking
taking_from own peers desk = record { sessions = first_sessions own peers; desk = desk }

-- from here to there a front of the commands of some frames was submitted; the rest are the commands of the frames that are left
pub record Came (from : Taking) (texts : List (List ℕ)) (now : Taking) (left : List (List ℕ)) : Type 0 where
  pub front : List Command
  pub joined : front ++ commands_over now.sessions left ≡ commands_over from.sessions texts
  pub taken : now.desk ≡ submitted from.desk front

-- the same for the unread bytes of a reader, whatever comes after them
abbrev pub CameOn : Taking → List ℕ → Taking → List ℕ → Type 0
CameOn from unread now left = (more : List ℕ) → Came from (frames_of (unread ++ more)) now (frames_of (left ++ more))

-- or a fault came among their commands
abbrev pub StoppedOn : Taking → List ℕ → DeskState → ReplayFault → Type 0
StoppedOn from unread after fault =
    (more : List ℕ) → Stopped from.desk after (commands_over from.sessions (frames_of (unread ++ more))) fault

-- all commands of an input were submitted, where its bytes are known
abbrev pub TakenOf : Option (List ℕ) → Taking → DeskState → Type 0
TakenOf known from after = IfSome known (λ bytes. after ≡ submitted from.desk (commands_over from.sessions (frames_of bytes)))

-- or a fault came among them
abbrev pub StoppedOf : Option (List ℕ) → Taking → DeskState → ReplayFault → Type 0
StoppedOf known from after fault =
    IfSome known (λ bytes. Stopped from.desk after (commands_over from.sessions (frames_of bytes)) fault)

-- ---- a capture from an empty desk on

-- it brings no more commands than a day has events, or it brings more, where its bytes are known
abbrev pub Fits : List ℕ → List (List ℕ) → Option (List ℕ) → Type 0
Fits own peers known = IfSome known (λ bytes. length (commands_of own peers bytes) ≤ EVENTS_MAX)

abbrev pub Overfills : List ℕ → List (List ℕ) → Option (List ℕ) → Type 0
Overfills own peers known = IfSome known (λ bytes. EVENTS_MAX < length (commands_of own peers bytes))
