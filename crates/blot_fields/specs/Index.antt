-- An index of a message's fields by their tags.
use Rattle.std.specs.Prelude.{◌≡◌, ℕ, ◌<◌, ◌==◌, if◌then◌else◌, List, [], ◌∷◌, slice_index_or, Option, Some, None, Result, Ok, Err}
use Rattle.std.specs.List.{position_or_len}
use Rattle.blot_tag.specs.Fields.{TagValue}
use Rattle.blot_fields.specs.Rows.{one_of, values}
use Rattle.blot_fields.specs.Occurrences.{found_in, with_value}
use Rattle.blot_fields.specs.declared.{fault.Flaw.Flaw, occurrence.Occurrence.Occurrence, occurrence.Occurrence.TheVariants.Missing, index.TheConstants.ROWS}

-- the tags that have a row in some table
abbrev pub row_tags : List ℕ
row_tags =
    1 ∷ 6 ∷ 7 ∷ 14 ∷ 16 ∷ 17 ∷ 19 ∷ 31 ∷ 32 ∷ 34 ∷ 35 ∷ 36
    ∷ 37 ∷ 38 ∷ 39 ∷ 43 ∷ 49 ∷ 52 ∷ 53 ∷ 54 ∷ 55 ∷ 56 ∷ 60 ∷ 70
    ∷ 71 ∷ 72 ∷ 75 ∷ 78 ∷ 98 ∷ 108 ∷ 112 ∷ 123 ∷ 124 ∷ 141 ∷ 150 ∷ 151 ∷ []

-- the place of a tag among those that have a row, and their number where it has none
abbrev pub row_of : ℕ → ℕ
row_of tag = position_or_len (λ other. other == tag) row_tags

-- a tag has a row
abbrev pub HasRow : ℕ → Type 0
HasRow tag = row_of tag < ROWS

-- what is known of a tag, together with the values that are still to come
abbrev pub together : Result (Option (List ℕ)) Flaw → List (List ℕ) → Result (Option (List ℕ)) Flaw
together (Ok None) later = one_of later
together (Ok (Some value)) later = one_of (value ∷ later)
together (Err reason) later = Err reason

-- the occurrences, together with the fields that are still to come, know the value of each tag that has a row
abbrev pub IsIndexBefore : List TagValue → List TagValue → List Occurrence → Type 0
IsIndexBefore fields later occurrences =
    (tag : ℕ) → HasRow tag → together (found_in (slice_index_or occurrences (row_of tag) Missing)) (values tag later) ≡ one_of (values tag fields)

-- the occurrences know the value of each tag that has a row
abbrev pub IsIndex : List TagValue → List Occurrence → Type 0
IsIndex fields occurrences = (tag : ℕ) → HasRow tag → found_in (slice_index_or occurrences (row_of tag) Missing) ≡ one_of (values tag fields)

-- the occurrences, with one field more
abbrev pub Notes : TagValue → List Occurrence → List Occurrence → Type 0
Notes field old new =
    (tag : ℕ) → HasRow tag
    → found_in (slice_index_or new (row_of tag) Missing)
    ≡ (if field.tag == tag then with_value (found_in (slice_index_or old (row_of tag) Missing)) field.value else found_in (slice_index_or old (row_of tag) Missing))

-- the occurrences know of no field
abbrev pub KnowsNothing : List Occurrence → Type 0
KnowsNothing occurrences = (tag : ℕ) → HasRow tag → found_in (slice_index_or occurrences (row_of tag) Missing) ≡ Ok None
