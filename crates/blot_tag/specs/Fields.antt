-- The fields of a text, from left to right: a tag, `=`, a value, SOH (FIX 4.4 volume 1, "tag=value" syntax).
use Rattle.std.specs.Prelude.{ℕ, zero, suc, ◌+◌, ◌&&◌, ◌==◌, nat_eq, nat_lt, List, [], ◌∷◌, length, take, drop, slice_index, Option, Some, None, option_and_then, Result, Ok, Err, if◌then◌else◌, ok_or, position}
use Rattle.std.specs.Option.{option_eq}
use Rattle.std.specs.List.{before_first, after_first}
use Rattle.std.specs.Map.{lookup}
use Rattle.blot_tag.specs.Bytes.{is_soh, is_equals, is_number, number_of, tag_number}
use Rattle.blot_tag.specs.Results.{◌>>=◌}
use Rattle.blot_tag.specs.declared.{field.SplitFault.SplitFault, bytes.TheConstants.CHECK_SUM_LENGTH}
use Rattle.blot_tag.specs.declared.field.SplitReason.TheVariants.{InvalidTagNumber, IncorrectDataFormat}

-- a field as plain data
pub record TagValue : Type 0 where
  pub tag : ℕ
  pub value : List ℕ

-- what comes next in a text: a field, or why none can be split off
abbrev pub Item : Type 0
Item = Result TagValue SplitFault

-- this tag with this value
abbrev pub field_of : ℕ → List ℕ → TagValue
field_of tag value = record { tag = tag; value = value }

-- the field doesn't begin with a tag and `=`
abbrev pub no_tag : SplitFault
no_tag = record { tag = 0; reason = InvalidTagNumber }

-- the length before a data field doesn't fit it
abbrev pub wrong_length : ℕ → SplitFault
wrong_length tag = record { tag = tag; reason = IncorrectDataFormat }

-- each length tag and the tag of the data after it (FIX 4.4 volume 1, "Data fields"; volume 6)
abbrev pub length_and_data_tags : List (ℕ × ℕ)
length_and_data_tags =
    (90, 91) ∷ (93, 89) ∷ (95, 96) ∷ (212, 213) ∷ (348, 349) ∷ (350, 351) ∷ (352, 353) ∷ (354, 355)
    ∷ (356, 357) ∷ (358, 359) ∷ (360, 361) ∷ (362, 363) ∷ (364, 365) ∷ (445, 446) ∷ (618, 619) ∷ (621, 622) ∷ []

-- the tag of the data that goes with a length tag
abbrev pub data_tag_of : ℕ → Option ℕ
data_tag_of tag = lookup (λ length_tag. tag == length_tag) length_and_data_tags

-- the length of a data field, as the field right before it writes it; none for an ordinary field
abbrev pub length_before : Option TagValue → ℕ → Option (List ℕ)
length_before None tag = None
length_before (Some field) tag = if option_eq nat_eq (data_tag_of field.tag) (Some tag) then Some field.value else None

-- the tag that begins a text: the digits before its first `=`
abbrev pub first_tag : List ℕ → Option ℕ
first_tag text = option_and_then (λ place. tag_number (take place text)) (position is_equals text)

-- as many bytes as the digits say, and the text after the SOH that follows; both lie before the seven bytes of CheckSum
unfoldable pub data_value : List ℕ → List ℕ → Option (List ℕ × List ℕ)
data_value digits rest =
    let size = number_of digits in
    if is_number digits && nat_lt (size + CHECK_SUM_LENGTH) (length rest) && is_soh (slice_index rest size)
    then Some (take size rest, drop (size + 1) rest) else None

-- a value and the text after its SOH: an ordinary one ends at the next SOH, a data field's is as long as the length says
abbrev pub value_of : Option (List ℕ) → ℕ → List ℕ → Result (List ℕ × List ℕ) SplitFault
value_of None tag rest = Ok (before_first is_soh rest, after_first is_soh rest)
value_of (Some digits) tag rest = ok_or (data_value digits rest) (wrong_length tag)

-- the field that begins a text, right after the field `before`, and the text after it
unfoldable pub first_field : Option TagValue → List ℕ → Result (TagValue × List ℕ) SplitFault
first_field before text = do
  tag ← ok_or (first_tag text) no_tag
  cut ← value_of (length_before before tag) tag (after_first is_equals text)
  Ok (record { tag = tag; value = cut.0 }, cut.1)

-- a field and what `others` finds after it, or the fault alone: nothing is looked for after a fault
abbrev pub and_then_others : (Option TagValue → List ℕ → List Item) → Result (TagValue × List ℕ) SplitFault → List Item
and_then_others others (Ok split) = Ok split.0 ∷ others (Some split.0) split.1
and_then_others others (Err fault) = Err fault ∷ []

-- the first n items of a text, right after the field `before`
unfoldable pub first_items : ℕ → Option TagValue → List ℕ → List Item
first_items zero before text = []
first_items (suc n) before [] = []
first_items (suc n) before (byte ∷ bytes) = and_then_others (first_items n) (first_field before (byte ∷ bytes))

-- all items of a text after the field `before`: no more than it has bytes
unfoldable pub items_behind : Option TagValue → List ℕ → List Item
items_behind before text = first_items (length text) before text

-- the fields of a text, or those before its first fault and then that fault
abbrev pub fields_of : List ℕ → List Item
fields_of text = items_behind None text

-- the fields before the first fault
abbrev pub fields_before_fault : List Item → List TagValue
fields_before_fault [] = []
fields_before_fault (Ok field ∷ items) = field ∷ fields_before_fault items
fields_before_fault (Err fault ∷ items) = []

-- the first fault
abbrev pub fault_of : List Item → Option SplitFault
fault_of [] = None
fault_of (Ok field ∷ items) = fault_of items
fault_of (Err fault ∷ items) = Some fault
