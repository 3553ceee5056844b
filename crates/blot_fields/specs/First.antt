-- The first field of a tag.
use Rattle.std.specs.Prelude.{◌≡◌, ℕ, List, [], ◌∷◌, ◌==◌, Option, Some, None, Ok, Err, if◌then◌else◌, option_and_then, option_map}
use Rattle.blot_time.specs.Moment.{moment_of}
use Rattle.blot_tag.specs.Fields.{Item}
use Rattle.blot_types.specs.Text.{is_text}
use Rattle.blot_fields.specs.declared.message.Message.{Message}

-- these bytes, if they are a text
abbrev pub text_in : List ℕ → Option (List ℕ)
text_in bytes = if is_text bytes then Some bytes else None

-- the value of the first field of a tag, where that can be split off
abbrev pub first_value : ℕ → List Item → Option (List ℕ)
first_value tag [] = None
first_value tag (Err fault ∷ items) = None
first_value tag (Ok field ∷ items) = if field.tag == tag then Some field.value else first_value tag items

-- the first field of a tag that can be split off, if it is a text
abbrev pub first_text : ℕ → List Item → Option (List ℕ)
first_text tag items = option_and_then text_in (first_value tag items)

-- the message's SendingTime is the first field 52
abbrev pub IsSentAt : List Item → Message → Type 0
IsSentAt items message = option_map moment_of (first_value 52 items) ≡ Some (Ok message.head.sending)
