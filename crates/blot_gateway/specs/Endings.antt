-- The numbers of endings, and the stops that are endings.
use Rattle.std.specs.Prelude.{ℕ, List, codes}
use Rattle.blot_session.specs.CloseNames.{close_name}
use Rattle.blot_gateway.specs.declared.{ended.Ended.Ended, ended.Stop.Stop}
use Rattle.blot_gateway.specs.declared.ended.Ended.TheVariants as ended
use Rattle.blot_gateway.specs.declared.ended.Stop.TheVariants as stops

-- the number of an ending
abbrev pub ended_number : Ended → ℕ
ended_number (ended.Closed reason) = 0
ended_number ended.End = 1
ended_number ended.ReadFault = 2
ended_number ended.WriteFault = 3
ended_number ended.TooLong = 4
ended_number ended.NoMemory = 5
ended_number ended.NoGreeting = 6

-- the name of an ending: of one by the session, that of its reason
abbrev pub ended_name : Ended → List ℕ
ended_name (ended.Closed reason) = close_name reason
ended_name ended.End = codes "End"
ended_name ended.ReadFault = codes "ReadFault"
ended_name ended.WriteFault = codes "WriteFault"
ended_name ended.TooLong = codes "TooLong"
ended_name ended.NoMemory = codes "NoMemory"
ended_name ended.NoGreeting = codes "NoGreeting"

-- the ending of a stop
abbrev pub ended_by : Stop → Ended
ended_by (stops.Closed reason) = ended.Closed reason
ended_by stops.WriteFault = ended.WriteFault
ended_by stops.NoMemory = ended.NoMemory
