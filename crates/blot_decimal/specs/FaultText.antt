-- What is printed for a fault. Source: this project's rule.
use Rattle.std.specs.Prelude.{ℕ, List, codes}
use Rattle.blot_decimal.specs.declared.fault.DecimalFault.{DecimalFault}
use Rattle.blot_decimal.specs.declared.fault.DecimalFault.TheVariants.{Format, TooFine, TooLarge}

-- the words for a fault
abbrev pub fault_text : DecimalFault → List ℕ
fault_text Format = codes "not a decimal"
fault_text TooFine = codes "too many decimals"
fault_text TooLarge = codes "out of range"
