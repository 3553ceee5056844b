-- How fields stand in a text (FIX 4.4 volume 1, "tag=value" syntax): what a reader believes of the fields of a frame.
use Rattle.std.specs.Prelude.{◌≡◌, ◌≢◌, ℕ, true, List, [], ◌∷◌, ◌++◌, length, Option, Some, MatchOption, decimal, All, flat_map}
use Rattle.blot_tag.specs.Bytes.{soh, equals, is_number, number_of}
use Rattle.blot_tag.specs.Fields.{TagValue, length_before}

-- a field as it stands in a text: its tag in shortest decimal, `=`, its value, SOH
abbrev pub field_text : TagValue → List ℕ
field_text field = decimal field.tag ++ equals ∷ (field.value ++ soh ∷ [])

-- fields one after the other
abbrev pub fields_text : List TagValue → List ℕ
fields_text fields = flat_map field_text fields

-- the text begins with these bytes
pub record BeginsWith (bytes text : List ℕ) : Type 0 where
  pub behind : List ℕ
  pub whole : text ≡ bytes ++ behind

-- the bytes are a slice of the text
pub record IsSlice (bytes text : List ℕ) : Type 0 where
  pub before : List ℕ
  pub behind : List ℕ
  pub whole : text ≡ before ++ (bytes ++ behind)

-- where the value of a field ends that comes right after the field `before`: at the first SOH, or after as many bytes as `before` says
abbrev pub EndsBehind : Option TagValue → TagValue → Type 0
EndsBehind before field =
    MatchOption (length_before before field.tag) (All (λ byte. byte ≢ soh) field.value)
    (λ digits. (is_number digits ≡ true) × (length field.value ≡ number_of digits))

-- the value of each field ends there, by the field before it
abbrev pub EachEnds : Option TagValue → List TagValue → Type 0
EachEnds before [] = Unit {0}
EachEnds before (field ∷ fields) = EndsBehind before field × EachEnds (Some field) fields
