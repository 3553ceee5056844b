-- How a reason to close a connection is told.
use Rattle.std.specs.Prelude.{ℕ, List, codes}
use Rattle.blot_session.specs.declared.action.CloseReason.{CloseReason}
use Rattle.blot_session.specs.declared.action.CloseReason.TheVariants.{NoLogon, TooLow, CompId, LoggedOut, Silent, AlreadyOn, BadHeader, Spent, NotTaken}

-- the number of a reason
abbrev pub close_number : CloseReason → ℕ
close_number NoLogon = 1
close_number TooLow = 2
close_number CompId = 3
close_number LoggedOut = 4
close_number Silent = 5
close_number AlreadyOn = 6
close_number BadHeader = 7
close_number Spent = 8
close_number NotTaken = 9

-- its name
abbrev pub close_name : CloseReason → List ℕ
close_name NoLogon = codes "NoLogon"
close_name TooLow = codes "TooLow"
close_name CompId = codes "CompId"
close_name LoggedOut = codes "LoggedOut"
close_name Silent = codes "Silent"
close_name AlreadyOn = codes "AlreadyOn"
close_name BadHeader = codes "BadHeader"
close_name Spent = codes "Spent"
close_name NotTaken = codes "NotTaken"
