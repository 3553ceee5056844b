-- Faults, as they are answered.
use Rattle.std.specs.Prelude.{◌≡◌, Option, Some, Result, Ok, Err, IsOk}
use Rattle.blot_fields.specs.declared.{fault.FieldFault.FieldFault, fault.FieldReason.FieldReason, fault.Wrong.Wrong, head.Head.Head, fault.Flaw.Flaw, fault.Refusal.Refusal}
use Rattle.blot_fields.specs.declared.fault.FieldReason.TheVariants as reasons
use Rattle.blot_fields.specs.declared.fault.Flaw.TheVariants as flaws
use Rattle.blot_fields.specs.declared.fault.Refusal.TheVariants as refusals

-- the reason that the standard gives a fault of a field (FIX 4.4 volume 2, SessionRejectReason)
abbrev pub reason_of : Flaw → FieldReason
reason_of flaws.InvalidTagNumber = reasons.InvalidTagNumber
reason_of flaws.RequiredTagMissing = reasons.RequiredTagMissing
reason_of flaws.TagWithoutValue = reasons.TagWithoutValue
reason_of flaws.ValueIncorrect = reasons.ValueIncorrect
reason_of flaws.IncorrectDataFormat = reasons.IncorrectDataFormat
reason_of flaws.TagRepeated = reasons.TagRepeated
reason_of flaws.IncorrectGroupCount = reasons.IncorrectGroupCount

-- a fault, under the header where that can be read
abbrev pub fault_under : Option Head → Wrong → FieldFault
fault_under head wrong = record { tag = wrong.tag; reason = reason_of wrong.flaw; head = head }

-- out of memory for a message with this header
abbrev pub no_memory_under : Head → FieldFault
no_memory_under head = record { tag = 0; reason = reasons.NoMemory; head = Some head }

-- what was refused: a fault that is meant, or memory for what is meant
abbrev pub Refuses : {A : Type 0} → Refusal → Result A Wrong → Type 0
Refuses (refusals.Wrong wrong) meant = meant ≡ Err wrong
Refuses refusals.NoMemory meant = IsOk meant

-- a result is what is meant, unless memory ran out for it
abbrev pub Gives : {A : Type 0} → Result A Refusal → Result A Wrong → Type 0
Gives (Ok value) meant = meant ≡ Ok value
Gives (Err refusal) meant = Refuses refusal meant
