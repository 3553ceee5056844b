-- What a fault prints.
use Rattle.std.specs.Prelude.{List, ℕ, ◌++◌, codes, decimal}
use Rattle.blot_tag.specs.declared.{field.SplitFault.SplitFault, field.SplitReason.SplitReason, write_fault.WriteFault.WriteFault}
use Rattle.blot_tag.specs.declared.field.SplitReason.TheVariants.{InvalidTagNumber, IncorrectDataFormat}
use Rattle.blot_tag.specs.declared.write_fault.WriteFault.TheVariants.{TooLong, SohInValue, NoMemory}

-- the text of a reason at a tag
abbrev pub reason_text : ℕ → SplitReason → List ℕ
reason_text tag InvalidTagNumber = codes "a field has no valid tag"
reason_text tag IncorrectDataFormat = codes "data field " ++ decimal tag ++ codes " hasn't the length given before it"

-- the text of a fault
abbrev pub fault_text : SplitFault → List ℕ
fault_text fault = reason_text fault.tag fault.reason

-- the words for a fault of writing
abbrev pub write_fault_text : WriteFault → List ℕ
write_fault_text TooLong = codes "the message is too long"
write_fault_text SohInValue = codes "a value has an SOH"
write_fault_text NoMemory = codes "out of memory"
