-- What the fields of a frame mean: a message, or its first fault. First the walk from the left, then the header, then
-- the rows of the message's own table (FIX 4.4 volume 2, "Reject"; the order of the faults is this project's rule).
use Rattle.std.specs.Prelude.{◌≡◌, Bool, true, false, List, Option, Some, None, Result, Ok, Err, IsOkAnd}
use Rattle.std.specs.Result.{result_ok}
use Rattle.blot_tag.specs.Fields.{TagValue, Item}
use Rattle.blot_fields.specs.declared.{fault.FieldFault.FieldFault, fault.FieldReason.FieldReason, fault.FieldReason.TheVariants.NoMemory, fault.Refusal.Refusal, fault.Wrong.Wrong, head.Head.Head, message.Body.Body, message.Message.Message}
use Rattle.blot_fields.specs.declared.fault.Refusal.TheVariants as refusals
use Rattle.blot_fields.specs.declared.message.Body.TheVariants as bodies
use Rattle.blot_fields.specs.Faults.{fault_under, no_memory_under}
use Rattle.blot_fields.specs.Kinds.{kind_of}
use Rattle.blot_fields.specs.Messages.{head_of, body_of}
use Rattle.blot_fields.specs.Walk.{sound_fields, refused_field}

-- a message whose lists take memory
abbrev pub IsAllocation : Body → Type 0
IsAllocation (bodies.Allocation allocation) = Unit {0}
IsAllocation _ = ⊥

-- a message's own part is what is meant, unless memory ran out for the lists of an allocation
abbrev pub GivesBody : Result Body Refusal → Result Body Wrong → Type 0
GivesBody (Ok body) meant = meant ≡ Ok body
GivesBody (Err (refusals.Wrong wrong)) meant = meant ≡ Err wrong
GivesBody (Err refusals.NoMemory) meant = IsOkAnd meant IsAllocation

-- a message under its header, or the fault of its own table
abbrev pub message_under : Head → Result Body Wrong → Result Message FieldFault
message_under head (Ok body) = Ok (record { head = head; body = body })
message_under head (Err wrong) = Err (fault_under (Some head) wrong)

-- a message of fields that aren't refused
abbrev pub message_of : Result Head Wrong → List TagValue → Result Message FieldFault
message_of (Ok head) fields = message_under head (body_of (kind_of head.kind) fields)
message_of (Err wrong) fields = Err (fault_under None wrong)

-- a message of the fields before the one that is refused; if one is refused, the header counts as far as these fields give it
abbrev pub decoded_before : Option Wrong → List TagValue → Result Message FieldFault
decoded_before None fields = message_of (head_of fields) fields
decoded_before (Some wrong) fields = Err (fault_under (result_ok (head_of fields)) wrong)

-- what the fields of a frame mean
unfoldable pub decoded : List Item → Result Message FieldFault
decoded items = decoded_before (refused_field items) (sound_fields items)

-- there was no memory for a message
abbrev pub no_memory : Message → FieldFault
no_memory message = no_memory_under message.head

-- whether a reason is that there was no memory
abbrev pub is_no_memory : FieldReason → Bool
is_no_memory NoMemory = true
is_no_memory _ = false

-- whether an answer is that there was no memory
abbrev pub is_out_of_memory : Result Message FieldFault → Bool
is_out_of_memory (Ok message) = false
is_out_of_memory (Err fault) = is_no_memory fault.reason
