-- What a fault prints. Source: this project's rule.
use Rattle.std.specs.Prelude.{ℕ, List, ◌++◌, codes, decimal}
use Rattle.blot_fields.specs.declared.{fault.FieldFault.FieldFault, fault.FieldReason.FieldReason}
use Rattle.blot_fields.specs.declared.fault.FieldReason.TheVariants as reasons

-- the standard's number of a reason (FIX 4.4 volume 2, SessionRejectReason); `NoMemory` is this project's rule
abbrev pub reason_number : FieldReason → ℕ
reason_number reasons.InvalidTagNumber = 0
reason_number reasons.RequiredTagMissing = 1
reason_number reasons.TagWithoutValue = 4
reason_number reasons.ValueIncorrect = 5
reason_number reasons.IncorrectDataFormat = 6
reason_number reasons.TagRepeated = 13
reason_number reasons.IncorrectGroupCount = 16
reason_number reasons.NoMemory = 100

-- the text of a fault
abbrev pub fault_text : FieldFault → List ℕ
fault_text fault = codes "field " ++ decimal fault.tag ++ codes " is refused for reason " ++ decimal (reason_number fault.reason)
