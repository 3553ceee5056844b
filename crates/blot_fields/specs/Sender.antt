-- Who sends a frame.
use Rattle.std.specs.Prelude.{ℕ, List, Option}
use Rattle.blot_tag.specs.Fields.{Item}
use Rattle.blot_fields.specs.First.{first_text}

-- the first field 49 of a frame, if it is a text
abbrev pub sender_of : List Item → Option (List ℕ)
sender_of items = first_text 49 items
