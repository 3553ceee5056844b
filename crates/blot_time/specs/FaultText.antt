-- What a fault prints. Source: this project's rule.
use Rattle.std.specs.Prelude.{ℕ, List, codes}
use Rattle.blot_time.specs.declared.fault.TimeFault.{TimeFault}
use Rattle.blot_time.specs.declared.fault.TimeFault.TheVariants.{Format, NoSuchDate}

-- the words for a fault
abbrev pub fault_text : TimeFault → List ℕ
fault_text Format = codes "not a date or time in FIX's form"
fault_text NoSuchDate = codes "no such date in the calendar"
