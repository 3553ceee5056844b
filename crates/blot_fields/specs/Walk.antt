-- The walk over a frame's fields from the left, up to the first that is refused.
use Rattle.std.specs.Prelude.{ℕ, ◌+◌, ◌==◌, nat_lt, List, [], ◌∷◌, length, Option, Some, None, is_none, Ok, Err, if◌then◌else◌}
use Rattle.std.specs.Option.{option_or}
use Rattle.blot_tag.specs.Fields.{TagValue, Item}
use Rattle.blot_tag.specs.declared.{field.SplitFault.SplitFault, field.SplitReason.SplitReason}
use Rattle.blot_tag.specs.declared.field.SplitReason.TheVariants as splits
use Rattle.blot_fields.specs.declared.{fault.Flaw.Flaw, fault.Wrong.Wrong, sound.TheConstants.FIELDS_MAX}
use Rattle.blot_fields.specs.declared.fault.Flaw.TheVariants.{InvalidTagNumber, TagWithoutValue, IncorrectDataFormat}
use Rattle.blot_fields.specs.Rows.{wrong}

-- why a field can't be split off
abbrev pub split_flaw : SplitReason → Flaw
split_flaw splits.InvalidTagNumber = InvalidTagNumber
split_flaw splits.IncorrectDataFormat = IncorrectDataFormat

-- the same with its tag
abbrev pub split_wrong : SplitFault → Wrong
split_wrong fault = wrong fault.tag (split_flaw fault.reason)

-- what is wrong with a field after so many others: it is the 2,001st (this project's rule), or empty
unfoldable pub field_wrong : ℕ → TagValue → Option Wrong
field_wrong before field =
    if nat_lt before FIELDS_MAX then (if length field.value == 0 then Some (wrong field.tag TagWithoutValue) else None)
    else Some (wrong field.tag IncorrectDataFormat)

-- a field after so many others, unless it is refused
abbrev pub sound_field : ℕ → Item → Option TagValue
sound_field before (Ok field) = if is_none (field_wrong before field) then Some field else None
sound_field before (Err fault) = None

-- a field and the others, if there is one
abbrev pub with_others : Option TagValue → List TagValue → List TagValue
with_others None others = []
with_others (Some field) others = field ∷ others

-- the fields before the first that is refused, after so many others
abbrev pub sound_behind : ℕ → List Item → List TagValue
sound_behind before [] = []
sound_behind before (item ∷ items) = with_others (sound_field before item) (sound_behind (before + 1) items)

-- the fault of the first field that is refused, after so many others
abbrev pub refused_behind : ℕ → List Item → Option Wrong
refused_behind before [] = None
refused_behind before (Err fault ∷ items) = Some (split_wrong fault)
refused_behind before (Ok field ∷ items) = option_or (field_wrong before field) (refused_behind (before + 1) items)

-- the fields before the first that is refused
abbrev pub sound_fields : List Item → List TagValue
sound_fields items = sound_behind 0 items

-- the fault of the first field that is refused
abbrev pub refused_field : List Item → Option Wrong
refused_field items = refused_behind 0 items
