-- How a run of the program ends, its status and its last line.
use Rattle.std.specs.Prelude.{ℕ, List, Option, Some, None, Result, Ok, Err, codes}
use Rattle.blot_stream.specs.declared.{outcome.Outcome.Outcome, outcome.ReplayFault.ReplayFault, outcome.ServeFault.ServeFault}
use Rattle.blot_stream.specs.declared.outcome.Outcome.TheVariants.{Done, InputFault, BadWords, NoMemory as OutOfMemory}
use Rattle.blot_stream.specs.declared.outcome.ReplayFault.TheVariants.{Read, Write, Full, NoMemory, TooLong, Journal}
use Rattle.blot_stream.specs.declared.outcome.ServeFault.TheVariants as served

-- out of memory is told apart; every other fault is the input's
abbrev pub outcome_of : Result (Unit {0}) ReplayFault → Outcome
outcome_of (Ok done) = Done
outcome_of (Err Read) = InputFault
outcome_of (Err Write) = InputFault
outcome_of (Err Full) = InputFault
outcome_of (Err NoMemory) = OutOfMemory
outcome_of (Err TooLong) = InputFault
outcome_of (Err Journal) = InputFault

-- and so is it where a day is served
abbrev pub served_outcome : Result (Unit {0}) ServeFault → Outcome
served_outcome (Ok done) = Done
served_outcome (Err served.Connection) = InputFault
served_outcome (Err (served.Lines fault)) = outcome_of (Err fault)
served_outcome (Err served.Unsettled) = InputFault
served_outcome (Err served.NoMemory) = OutOfMemory

abbrev pub status_of : Outcome → ℕ
status_of Done = 0
status_of InputFault = 1
status_of BadWords = 2
status_of OutOfMemory = 3

-- the line that standard error is told in the end, without its LF: none where all went well
abbrev pub last_line_of : Outcome → Option (List ℕ)
last_line_of Done = None
last_line_of InputFault = Some (codes "blotter: input fault")
last_line_of BadWords = Some (codes "blotter: bad words")
last_line_of OutOfMemory = Some (codes "blotter: no memory")
