-- What a fault of a line prints, and its number. Source: this project's rule.
use Rattle.std.specs.Prelude.{ℕ, List, ◌++◌, codes, decimal}
use Rattle.blot_console.specs.declared.fault.LineFault.{LineFault}
use Rattle.blot_console.specs.declared.fault.LineFault.TheVariants.{UnknownWord, WrongCount, BadValue, TooLong, NoMemory}

-- the number of a fault
abbrev pub fault_number : LineFault → ℕ
fault_number UnknownWord = 1
fault_number WrongCount = 2
fault_number (BadValue place) = 3
fault_number TooLong = 4
fault_number NoMemory = 5

-- the text of a fault
abbrev pub fault_text : LineFault → List ℕ
fault_text UnknownWord = codes "the first word is unknown"
fault_text WrongCount = codes "the words are too few or too many"
fault_text (BadValue place) = codes "the word at place " ++ decimal place ++ codes " is bad"
fault_text TooLong = codes "the line is too long"
fault_text NoMemory = codes "out of memory"
