-- The ranges of the numbers that a message gives (FIX 4.4 volume 1, "SeqNum"; the largest number is this project's rule).
use Rattle.std.specs.Prelude.{◌≤◌, Option, Some, Result, Ok, Err, IfSome, IfOk}
use Rattle.blot_fields.specs.declared.{admin.Admin.Admin, admin.Admin.TheVariants.SequenceReset, fault.FieldFault.FieldFault, head.Head.Head, message.Body.Body, message.Message.Message, TheConstants.SEQUENCE_MAX}
use Rattle.blot_fields.specs.declared.message.Body.TheVariants as bodies

-- the number that a Sequence Reset names is a sequence number
abbrev pub NamesNumber : Admin → Type 0
NamesNumber (SequenceReset new_number gap_fill) = new_number ≤ SEQUENCE_MAX
NamesNumber admin = Unit {0}

abbrev pub BodyNamesNumber : Body → Type 0
BodyNamesNumber (bodies.Admin admin) = NamesNumber admin
BodyNamesNumber body = Unit {0}

-- the header's number, where the header can be read
abbrev pub head_in : Result Message FieldFault → Option Head
head_in (Ok message) = Some message.head
head_in (Err fault) = fault.head

abbrev pub HasNumber : Result Message FieldFault → Type 0
HasNumber said = IfSome (head_in said) (λ head. head.number ≤ SEQUENCE_MAX)

-- each number that a frame gives is a sequence number
pub record IsNumbered (said : Result Message FieldFault) : Type 0 where
  pub head : HasNumber said
  pub named : IfOk said (λ message. BodyNamesNumber message.body)
