-- What a diary's records spell.
use Rattle.std.specs.Prelude.{◌≡◌, ◌+◌, ◌&&◌, ℕ, false, not, List, Option, Some, option_map, Result, Ok, Err, if◌then◌else◌, option_and_then, refl}
use Rattle.std.specs.Cmp.Lexicographic.{nat_list_eq_equiv}
use Rattle.std.specs.Option.{option_map_or}
use Rattle.std.proofs.Common.{ap, ◌∙◌}
use Rattle.blot_tag.specs.Fields.{Item, fields_of}
use Rattle.blot_tag.specs.Frames.{IsFrame}
use Rattle.blot_types.specs.declared.command.Command.{Command}
use Rattle.blot_types.specs.Keys.{same_text}
use Rattle.blot_fields.specs.Bringing.{brought, brought_by}
use Rattle.blot_fields.specs.Commands.{command_of}
use Rattle.blot_fields.specs.Decoding.{decoded}
use Rattle.blot_fields.specs.declared.{fault.FieldFault.FieldFault, message.Message.Message}
use Rattle.blot_desk.specs.declared.{event.Event.Event, event.Event.TheVariants.Submit}
use Rattle.blot_diary.specs.declared.{kept.Content.Content, kept.Kept.Kept, kept.Noted.Noted, numbers.SequenceNumbers.SequenceNumbers, kinds.Kind.Kind}
use Rattle.blot_diary.specs.Diary.{event_in}
use Rattle.blot_diary.specs.Events.{noted_by, noted_of}
use Rattle.blot_diary.specs.Keeping.{content_by, kept_of, kept_said}
use Rattle.blot_diary.specs.Kinds.{kind_of}
use Rattle.blot_diary.specs.Numbering.{numbers_after, pair_behind, pair_of}

abbrev event_of : Option Kept → Option Event
event_of kept = option_map (λ noted. noted.event) (option_and_then noted_of kept)

-- what a message without a fault keeps
abbrev pub kept_from : Message → Content → Kept
kept_from message content = record { from = message.head.sender; to = message.head.target; number = message.head.number; dup = message.head.dup; content = content }

submitted : (said : Result Message FieldFault) (items : List Item) (command : Command) → decoded items ≡ said → brought_by said ≡ Some command
    → event_of (kept_of items) ≡ Some (Submit command)
unfolding kept_of
submitted (Ok message) items command is brings =
    ap (λ said. event_of (kept_said said items)) is
    ∙ ap (λ found. option_map (λ (noted : Noted). noted.event) (noted_by message.head.sender (content_by found (kind_of message.head.kind) items))) brings
submitted (Err fault) items command is brings = absurd cc

-- a frame that brings a command spells its submit
pub spells_frames : (text : List ℕ) (command : Command) → IsFrame text → brought text ≡ Some command → IsFrame text × (event_in text ≡ Some (Submit command))
unfolding kept_of
spells_frames text command valid brings = (valid, submitted (decoded (fields_of text)) (fields_of text) command refl brings)

-- the numbers after what a message with a command keeps
counted : (own : List ℕ) (message : Message) (kind : Kind) (items : List Item) (command : Command) (numbers : ℕ × ℕ) → same_text message.head.sender own ≡ false
    → pair_of (numbers_after own message.head.sender (record { expected = numbers.0; next = numbers.1 }) (kept_from message (content_by (Some command) kind items)))
    ≡ (message.head.number + 1, numbers.1)
counted own message kind items command numbers other =
    ap (λ same. (
      if same then message.head.number + 1 else numbers.0,
      if same_text message.head.sender own && same_text message.head.target message.head.sender && not message.head.dup then message.head.number + 1 else numbers.1,
    ))
    (nat_list_eq_equiv.refl message.head.sender)
    ∙ ap (λ sent. (
      message.head.number + 1,
      if sent && same_text message.head.target message.head.sender && not message.head.dup then message.head.number + 1 else numbers.1,
    )) other

-- a frame that brings its sender's command makes the number after its own the expected one, and leaves the next one
pub counts_frames : (own text : List ℕ) (message : Message) (command : Command) (numbers : ℕ × ℕ) → decoded (fields_of text) ≡ Ok message
    → command_of message message.head.sender ≡ Some command → same_text message.head.sender own ≡ false
    → pair_behind own message.head.sender text numbers ≡ (message.head.number + 1, numbers.1)
unfolding kept_of
counts_frames own text message command numbers is brings other =
    let items = fields_of text in
    let peer = message.head.sender in
    let before : SequenceNumbers = record { expected = numbers.0; next = numbers.1 } in
    ap (λ found. pair_of (option_map_or (numbers_after own peer before) (kept_said found items) before)) is
    ∙ ap (λ found. pair_of (numbers_after own peer before (kept_from message (content_by found (kind_of message.head.kind) items)))) brings
    ∙ counted own message (kind_of message.head.kind) items command numbers other
