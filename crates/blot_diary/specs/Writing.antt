-- A frame of given fields: what its fields say, and when it can be written.
use Rattle.std.specs.Prelude.{ℕ, Bool, true, ◌&&◌, is_none, List, [], ◌∷◌, length, map}
use Rattle.std.specs.Borrow.{Bor}
use Rattle.blot_tag.specs.Fields.{TagValue, field_of}
use Rattle.blot_tag.specs.Writing.{MayFollow, Written, begun, body_of, kind_field, refusal_of, with_field}

-- fields, each with its tag
abbrev pub fields_in : List (ℕ × Bor (List ℕ)) → List TagValue
fields_in fields = map (λ field. field_of field.0 field.1.now) fields

-- a message of a kind with these fields
abbrev pub written : List ℕ → List TagValue → Written
written kind fields = record { kind = kind; fields = fields }

-- none of some fields is refused behind a message
abbrev pub takes_all : Written → List TagValue → Bool
takes_all message [] = true
takes_all message (field ∷ fields) = is_none (refusal_of (length (body_of message)) field) && takes_all (with_field message field) fields

-- a message can be written: neither its kind nor any field is refused
unfoldable pub fits : Written → Bool
fits message = is_none (refusal_of 0 (kind_field message.kind)) && takes_all (begun message.kind) message.fields

-- each field may be added after the one before it
abbrev pub EachMayFollow : TagValue → List TagValue → Type 0
EachMayFollow before [] = Unit {0}
EachMayFollow before (field ∷ fields) = MayFollow before field × EachMayFollow field fields
