-- The types of `src/`, seen as plain data.
use Rattle.std.specs.Prelude.{List, ℕ, Result, Ok, Err}
use Rattle.std.specs.Borrow.{Bor}
use Rattle.blot_tag.specs.declared.{frame.Frame.Frame, field.Field.Field, field.SplitFault.SplitFault}
use Rattle.blot_tag.specs.Fields.{TagValue, Item, fields_of}

-- the whole text of a frame
abbrev pub text_of : Frame → List ℕ
text_of frame = frame.text.now

-- the fields of its text
abbrev pub items_of : Frame → List Item
items_of frame = fields_of (text_of frame)

-- a field's tag and the bytes of its value
abbrev pub tag_value : Field → TagValue
tag_value field = record { tag = field.tag; value = field.value.now }

-- what the iterator gives
abbrev pub item_of : Result Field SplitFault → Item
item_of (Ok field) = Ok (tag_value field)
item_of (Err fault) = Err fault

-- a field and the text after it
abbrev pub split_of : Result (Field × Bor (List ℕ)) SplitFault → Result (TagValue × List ℕ) SplitFault
split_of (Ok split) = Ok (tag_value split.0, split.1.now)
split_of (Err fault) = Err fault
