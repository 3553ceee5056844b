-- A message in the making, and the frame that it becomes (FIX 4.4 volume 1, "Message format").
use Rattle.std.specs.Prelude.{◌≡◌, ℕ, ◌+◌, ◌-◌, ◌%◌, ◌^◌, ◌<◌, ◌≤◌, Bool, true, false, ◌&&◌, ◌||◌, ◌==◌, not, nat_lt, List, [], ◌∷◌, ◌++◌, length, take, drop, sum, codes, Option, Some, None, if◌then◌else◌, decimal}
use Rattle.std.specs.List.{list_any}
use Rattle.blot_tag.specs.Bytes.{is_soh, is_number, number_of}
use Rattle.blot_tag.specs.Fields.{TagValue, length_and_data_tags, data_tag_of, fields_of, fields_before_fault}
use Rattle.blot_tag.specs.FieldText.{field_text, fields_text}
use Rattle.blot_tag.specs.Frames.{three_digits, trailer_of, front_of}
use Rattle.blot_tag.specs.declared.{digits.TheConstants.TAG_DIGITS_MAX, look.TheConstants.SIZE_MAX, write_fault.WriteFault.WriteFault}
use Rattle.blot_tag.specs.declared.write_fault.WriteFault.TheVariants.{TooLong, SohInValue, NoMemory}

-- a message's kind, and the fields that were put, in their order
pub record Written : Type 0 where
  pub kind : List ℕ
  pub fields : List TagValue

-- the field MsgType
abbrev pub kind_field : List ℕ → TagValue
kind_field kind = record { tag = 35; value = kind }

-- the body: MsgType and the fields
abbrev pub body_of : Written → List ℕ
body_of written = fields_text (kind_field written.kind ∷ written.fields)

-- what stands before CheckSum in the frame: BodyLength is written in shortest decimal
abbrev pub front_text : Written → List ℕ
front_text written = front_of (decimal (length (body_of written))) (body_of written)

-- the frame
abbrev pub frame_of : Written → List ℕ
frame_of written = front_text written ++ trailer_of (front_text written)

-- the field BeginString
abbrev pub begin_field : TagValue
begin_field = record { tag = 8; value = codes "FIX.4.4" }

-- the field BodyLength
abbrev pub length_field : ℕ → TagValue
length_field size = record { tag = 9; value = decimal size }

-- the field CheckSum after these bytes
abbrev pub check_sum_field : List ℕ → TagValue
check_sum_field front = record { tag = 10; value = three_digits (sum front % 256) }

-- the fields of the frame: 8, 9, 35 with the kind, the fields put, and 10
abbrev pub frame_fields : Written → List TagValue
frame_fields written =
    begin_field ∷ length_field (length (body_of written)) ∷ kind_field written.kind
    ∷ (written.fields ++ check_sum_field (front_text written) ∷ [])

-- a message of a kind, to which no field was put yet
abbrev pub begun : List ℕ → Written
begun kind = record { kind = kind; fields = [] }

-- the message with one field more
abbrev pub with_field : Written → TagValue → Written
with_field written field = record { kind = written.kind; fields = written.fields ++ field ∷ [] }

-- the last of a first field and those after it
abbrev pub last_of : TagValue → List TagValue → TagValue
last_of field [] = field
last_of field (next ∷ fields) = last_of next fields

-- the last field of a body
abbrev pub last_field : Written → TagValue
last_field written = last_of (kind_field written.kind) written.fields

-- whether a tag is that of data
abbrev pub is_data_tag : ℕ → Bool
is_data_tag tag = list_any (λ pair. pair.1 == tag) length_and_data_tags

-- whether a tag is one that a message in the making writes by itself
abbrev pub is_own_tag : ℕ → Bool
is_own_tag tag = tag == 8 || tag == 9 || tag == 10 || tag == 35

-- whether an SOH stands among the bytes
abbrev pub has_soh : List ℕ → Bool
has_soh bytes = list_any is_soh bytes

-- the field `before` is the length of this data field
pub record IsLengthOf (field before : TagValue) : Type 0 where
  pub pair : data_tag_of before.tag ≡ Some field.tag
  pub number : is_number before.value ≡ true
  pub size : number_of before.value ≡ length field.value

-- a field may be added after the field `before`: its tag is one to nine digits and not the message's own, and data
-- comes right after its length
pub record MayFollow (before field : TagValue) : Type 0 where
  pub low : 1 ≤ field.tag
  pub high : field.tag < 10 ^ TAG_DIGITS_MAX
  pub other : is_own_tag field.tag ≡ false
  pub paired : is_data_tag field.tag ≡ true → IsLengthOf field before

-- why a field isn't added after so many bytes of a body: the first reason that applies
abbrev pub refusal_of : ℕ → TagValue → Option WriteFault
refusal_of size field =
    if nat_lt SIZE_MAX (size + length (field_text field)) then Some TooLong
    else (if has_soh field.value && not (is_data_tag field.tag) then Some SohInValue else None)

-- the fault of a refusal; where nothing is refused, there was no memory
abbrev pub IsWriteFault : Option WriteFault → WriteFault → Type 0
IsWriteFault (Some refusal) fault = fault ≡ refusal
IsWriteFault None fault = fault ≡ NoMemory

-- the value of the first of some fields
abbrev pub value_of_first : List TagValue → List ℕ
value_of_first [] = []
value_of_first (field ∷ fields) = field.value

-- the message whose body this is: its fields, as a frame's are found
unfoldable pub written_of : List ℕ → Written
written_of body =
    let fields = fields_before_fault (fields_of (body ++ trailer_of [])) in
    record { kind = value_of_first fields; fields = take (length fields - 2) (drop 1 fields) }

-- a field stands well after the field `before`: it is read again as it was put
pub record Follows (before field : TagValue) : Type 0 where
  pub low : 1 ≤ field.tag
  pub high : field.tag < 10 ^ TAG_DIGITS_MAX
  pub paired : is_data_tag field.tag ≡ true → IsLengthOf field before
  pub plain : is_data_tag field.tag ≡ false → has_soh field.value ≡ false

-- each field stands well after the one before it
abbrev pub EachFollows : TagValue → List TagValue → Type 0
EachFollows before [] = Unit {0}
EachFollows before (field ∷ fields) = Follows before field × EachFollows field fields

-- a message as it is made: no longer than a frame's body may be
pub record IsWritten (written : Written) : Type 0 where
  pub some : 0 < length written.kind
  pub plain : has_soh written.kind ≡ false
  pub follow : EachFollows (kind_field written.kind) written.fields
  pub short : length (body_of written) ≤ SIZE_MAX

-- a body, and the tag of its last field
pub record IsBodyText (body : List ℕ) (last : ℕ) : Type 0 where
  pub written : IsWritten (written_of body)
  pub text : body ≡ body_of (written_of body)
  pub last_tag : last ≡ (last_field (written_of body)).tag
