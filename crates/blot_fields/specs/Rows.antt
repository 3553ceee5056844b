-- The rows of a table: the value of the only field with a tag, read by its form (FIX 4.4 volume 2, SessionRejectReason).
use Rattle.std.specs.Prelude.{ℕ, ◌==◌, Bool, true, false, List, [], ◌∷◌, map, filter, Option, Some, None, Result, Ok, Err, ok_or}
use Rattle.blot_tag.specs.Fields.{TagValue}
use Rattle.blot_tag.specs.Results.{◌>>=◌}
use Rattle.blot_fields.specs.declared.{fault.Flaw.Flaw, fault.Wrong.Wrong}
use Rattle.blot_fields.specs.declared.fault.Flaw.TheVariants.{RequiredTagMissing, TagRepeated}

-- a field's fault
abbrev pub wrong : ℕ → Flaw → Wrong
wrong tag flaw = record { tag = tag; flaw = flaw }

-- what is found at a tag, with the tag beside its fault
abbrev pub at : {A : Type 0} → ℕ → Result A Flaw → Result A Wrong
at tag (Ok value) = Ok value
at tag (Err flaw) = Err (wrong tag flaw)

-- the values of the fields with a tag, in their order
abbrev pub values : ℕ → List TagValue → List (List ℕ)
values tag fields = map (λ field. field.value) (filter (λ field. field.tag == tag) fields)

-- the value that stands alone, or none; more than one is a fault
abbrev pub one_of : List (List ℕ) → Result (Option (List ℕ)) Flaw
one_of [] = Ok None
one_of (value ∷ []) = Ok (Some value)
one_of (value ∷ second ∷ more) = Err TagRepeated

-- the value of the only field with a tag, or none
unfoldable pub only : ℕ → List TagValue → Result (Option (List ℕ)) Flaw
only tag fields = one_of (values tag fields)

-- whether a look-up found a field, or several
abbrev pub is_there : Result (Option (List ℕ)) Flaw → Bool
is_there (Ok None) = false
is_there (Ok (Some value)) = true
is_there (Err flaw) = true

-- whether there is a field with a tag, once or more often
unfoldable pub has : ℕ → List TagValue → Bool
has tag fields = is_there (only tag fields)

-- what is found where there must be a field
abbrev pub there_in : ℕ → Result (Option (List ℕ)) Flaw → Result (List ℕ) Wrong
there_in tag found = do
  value ← at tag found
  ok_or value (wrong tag RequiredTagMissing)

-- what it says
abbrev pub needed_in : {A : Type 0} → ℕ → (List ℕ → Result A Flaw) → Result (Option (List ℕ)) Flaw → Result A Wrong
needed_in tag form found = do
  value ← there_in tag found
  at tag (form value)

-- what a value says, where there is one
abbrev pub if_there : {A : Type 0} → (List ℕ → Result A Wrong) → Option (List ℕ) → Result (Option A) Wrong
if_there read None = Ok None
if_there read (Some value) = (do
  said ← read value
  Ok (Some said))

-- what is found says, where there may be a field
abbrev pub optional_in : {A : Type 0} → ℕ → (List ℕ → Result A Flaw) → Result (Option (List ℕ)) Flaw → Result (Option A) Wrong
optional_in tag form found = do
  value ← at tag found
  if_there (λ v. at tag (form v)) value

-- the value of the only field with a tag, which must be there
unfoldable pub there : ℕ → List TagValue → Result (List ℕ) Wrong
there tag fields = there_in tag (only tag fields)

-- a row that a message needs: its field once, with a value of the form
unfoldable pub needed : {A : Type 0} → ℕ → (List ℕ → Result A Flaw) → List TagValue → Result A Wrong
needed tag form fields = do
  value ← there tag fields
  at tag (form value)

-- a row that a message may have: its field at most once, with a value of the form
unfoldable pub optional : {A : Type 0} → ℕ → (List ℕ → Result A Flaw) → List TagValue → Result (Option A) Wrong
optional tag form fields = optional_in tag form (only tag fields)
