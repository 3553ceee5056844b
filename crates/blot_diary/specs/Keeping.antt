-- What a frame of a journal keeps, by its fields. No session is asked, and no list of peers. Source: this project's rule.
use Rattle.std.specs.Prelude.{◌≤◌, ℕ, ◌+◌, List, Option, Some, None, Result, Ok, Err, filter_map}
use Rattle.blot_tag.specs.Fields.{Item, fields_of}
use Rattle.blot_types.specs.declared.command.Command.{Command}
use Rattle.blot_types.specs.declared.command.Command.TheVariants as commands
use Rattle.blot_fields.specs.Commands.{command_of}
use Rattle.blot_fields.specs.Decoding.{decoded}
use Rattle.blot_fields.specs.declared.{fault.FieldFault.FieldFault, message.Message.Message, TheConstants.SEQUENCE_MAX}
use Rattle.blot_console.specs.Asks.{SubmitsAllocNew}
use Rattle.blot_diary.specs.declared.{kept.Content.Content, kept.Kept.Kept, kinds.Kind.Kind, numbers.SequenceNumbers.SequenceNumbers}
use Rattle.blot_diary.specs.declared.kept.Content.TheVariants as contents
use Rattle.blot_diary.specs.declared.kinds.Kind.TheVariants as kinds
use Rattle.blot_diary.specs.Kinds.{kind_of}
use Rattle.blot_diary.specs.Own.{asked_said, beginning_said, numbers_said, wrapped_said}

-- what the fields of a frame of a type say
abbrev pub content_under : Kind → List Item → Content
content_under kinds.Beginning items = beginning_said items
content_under kinds.Wrapped items = wrapped_said items
content_under kinds.Numbers items = numbers_said items
content_under kinds.Asked items = asked_said items
content_under kinds.Message items = contents.Message

-- the command, if there is one, and else what the type asks for
abbrev pub content_by : Option Command → Kind → List Item → Content
content_by (Some command) kind items = contents.Command command
content_by None kind items = content_under kind items

-- what a message says: its command is its own sender's
abbrev pub content_of : Message → List ℕ → List Item → Content
content_of message sender items = content_by (command_of message sender) (kind_of message.head.kind) items

-- what a message keeps; one at fault keeps nothing
abbrev pub kept_said : Result Message FieldFault → List Item → Option Kept
kept_said (Ok message) items = Some (record {
  from = message.head.sender;
  to = message.head.target;
  number = message.head.number;
  dup = message.head.dup;
  content = content_of message message.head.sender items;
})
kept_said (Err fault) items = None

-- what the fields of a frame keep
unfoldable pub kept_of : List Item → Option Kept
kept_of items = kept_said (decoded items) items

-- what frames keep, in their order
abbrev pub kept_in : List (List ℕ) → List Kept
kept_in frames = filter_map (λ frame. kept_of (fields_of frame)) frames

-- ---- facts

-- a broker's command on an allocation
abbrev pub IsOnAllocation : Command → Type 0
IsOnAllocation (commands.AllocNew new) = Unit {0}
IsOnAllocation (commands.AllocReplace replace) = Unit {0}
IsOnAllocation (commands.AllocCancel cancel) = Unit {0}
IsOnAllocation command = ⊥

-- it has lists that take memory
abbrev pub TakesMemory : Content → Type 0
TakesMemory (contents.Command command) = IsOnAllocation command
TakesMemory (contents.Asked operator event) = SubmitsAllocNew event
TakesMemory content = ⊥

-- each of the two numbers can be a session's
abbrev pub IsInRange : SequenceNumbers → Type 0
IsInRange numbers = ((1 ≤ numbers.expected) × (numbers.expected ≤ SEQUENCE_MAX + 1)) × ((1 ≤ numbers.next) × (numbers.next ≤ SEQUENCE_MAX + 1))

-- so can those that it says, if it says any
abbrev pub SaysInRange : Content → Type 0
SaysInRange (contents.Numbers numbers) = IsInRange numbers
SaysInRange content = Unit {0}

-- what is kept has numbers that a session can have
pub record IsKept (kept : Kept) : Type 0 where
  pub number : kept.number ≤ SEQUENCE_MAX
  pub content : SaysInRange kept.content
