-- Faults of lines, as they are told.
use Rattle.blot_console.specs.declared.{fault.LineFault.LineFault, fault.Wrong.Wrong}
use Rattle.blot_console.specs.declared.fault.LineFault.TheVariants as faults
use Rattle.blot_console.specs.declared.fault.Wrong.TheVariants as wrongs

-- what is wrong with a line, as its fault
abbrev pub fault_of : Wrong → LineFault
fault_of wrongs.UnknownWord = faults.UnknownWord
fault_of wrongs.WrongCount = faults.WrongCount
fault_of (wrongs.BadValue place) = faults.BadValue place
fault_of wrongs.TooLong = faults.TooLong
