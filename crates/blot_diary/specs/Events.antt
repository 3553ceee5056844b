-- The events of a journal: those that its frames bring, in their order, each with who brought it.
use Rattle.std.specs.Prelude.{◌≡◌, ℕ, Bool, true, false, List, [], ◌∷◌, ◌++◌, Option, Some, None, Ok, filter_map, option_and_then}
use Rattle.std.specs.Option.{option_map_or}
use Rattle.blot_tag.specs.Fields.{Item, fields_of}
use Rattle.blot_tag.specs.Frames.{IsFrame}
use Rattle.blot_tag.specs.Walking.{frames_of}
use Rattle.blot_types.specs.declared.command.Command.{Command}
use Rattle.blot_fields.specs.Commands.{command_of}
use Rattle.blot_fields.specs.Decoding.{decoded}
use Rattle.blot_fields.specs.declared.message.Message.{Message}
use Rattle.blot_desk.specs.declared.event.Event.TheVariants.{Submit}
use Rattle.blot_desk.specs.Keeping.{is_ask}
use Rattle.blot_diary.specs.declared.{kept.Content.Content, kept.Kept.Kept, kept.Noted.Noted}
use Rattle.blot_diary.specs.declared.kept.Content.TheVariants as contents
use Rattle.blot_diary.specs.declared.kept.Party.TheVariants.{Peer, Operator}
use Rattle.blot_diary.specs.Keeping.{kept_in, kept_of}

-- a command is the submit of it by the sender, an operator's event is that operator's, and all else is none
abbrev pub noted_by : List ℕ → Content → Option Noted
noted_by from (contents.Command command) = Some (record { party = Peer from; event = Submit command })
noted_by from (contents.Asked operator event) = Some (record { party = Operator operator; event = event })
noted_by from content = None

-- the event that is kept, if one is
abbrev pub noted_of : Kept → Option Noted
noted_of kept = noted_by kept.from kept.content

-- the event of a text that is one frame, if it brings one
abbrev pub noted_in : List ℕ → Option Noted
noted_in frame = option_and_then noted_of (kept_of (fields_of frame))

-- what is kept is a message: no command, and none of the journal's own
abbrev pub is_message : Content → Bool
is_message contents.Message = true
is_message content = false

-- a frame keeps its message, and nothing else
abbrev pub keeps_message : List ℕ → Bool
keeps_message frame = option_map_or (λ (kept : Kept). is_message kept.content) (kept_of (fields_of frame)) false

-- a text is one such frame
abbrev pub IsPlain : List ℕ → Type 0
IsPlain text = IsFrame text × (keeps_message text ≡ true)

-- a text is one frame, and brings no event
abbrev pub IsQuiet : List ℕ → Type 0
IsQuiet text = IsFrame text × (noted_in text ≡ None)

-- the events of frames
abbrev pub events_in : List (List ℕ) → List Noted
events_in frames = filter_map noted_of (kept_in frames)

-- the events of a text
abbrev pub events_of : List ℕ → List Noted
events_of text = events_in (frames_of text)

-- some events, and one more behind them if there is one
abbrev pub with_last : List Noted → Option Noted → List Noted
with_last events None = events
with_last events (Some noted) = events ++ noted ∷ []

-- a frame behind others adds this to their events
abbrev pub BringsLast : List (List ℕ) → List ℕ → Option Noted → Type 0
BringsLast frames frame noted = events_in (frames ++ frame ∷ []) ≡ with_last (events_in frames) noted

-- a frame whose message gives a command, as its own sender's, is the submit of it by that sender
abbrev pub IsItsSubmit : List Item → Type 0
IsItsSubmit items = (message : Message) (command : Command) → decoded items ≡ Ok message → command_of message message.head.sender ≡ Some command
    → option_and_then noted_of (kept_of items) ≡ Some (record { party = Peer message.head.sender; event = Submit command })

-- no frame of these fields brings an event that only asks
abbrev pub BringsNoAsk : List Item → Type 0
BringsNoAsk items = (noted : Noted) → option_and_then noted_of (kept_of items) ≡ Some noted → is_ask noted.event ≡ false
