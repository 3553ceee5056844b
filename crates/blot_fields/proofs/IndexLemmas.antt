-- The occurrences come to know the fields, one at a time.
use Rattle.std.proofs.Common.{◌≡◌, get_or, arith, ◌≤◌, inl, inr, length, replicate, map, filter, ap, subst, ℕ, ◌+◌, ◌<◌, Bool, true, false, List, [], ◌∷◌, Option, Some, None, Result, Ok, Err, refl, sym, ◌∙◌, slice_index_or, slice_set, if◌then◌else◌, ◌==◌, get_or-set_same, get_or-set_other, eqb-true, eq-eqb, ne_eqb}
use Rattle.std.proofs.lemmas.List.{get_or-replicate}
use Rattle.std.proofs.lemmas.List.Sums.{passes_at_first}
use Rattle.std.proofs.lemmas.Bool.{cases_eq}
use Rattle.blot_tag.specs.Fields.{TagValue, Item}
use Rattle.blot_fields.specs.declared.{fault.Flaw.Flaw, occurrence.Occurrence.Occurrence, occurrence.Occurrence.TheVariants.Missing, fault.Wrong.Wrong, index.TheConstants.ROWS}
use Rattle.blot_fields.specs.Walk.{field_wrong, sound_behind, refused_behind}
use Rattle.blot_fields.specs.Rows.{values}
use Rattle.blot_fields.specs.Occurrences.{found_in, with_value}
use Rattle.blot_fields.specs.Index.{together, row_tags, row_of, IsIndexBefore, Notes}

-- nothing is to come any more
pub together-nil : (found : Result (Option (List ℕ)) Flaw) → together found [] ≡ found
together-nil (Ok None) = refl
together-nil (Ok (Some value)) = refl
together-nil (Err reason) = refl

-- the next value has come
pub together-next : (found : Result (Option (List ℕ)) Flaw) (value : List ℕ) (later : List (List ℕ))
    → together (with_value found value) later ≡ together found (value ∷ later)
together-next (Ok None) value later = refl
together-next (Ok (Some first)) value later = refl
together-next (Err reason) value later = refl

-- one tag's occurrence, after a field that bears the tag or doesn't
slot_next : (same : Bool) (old new : Result (Option (List ℕ)) Flaw) (value : List ℕ) (later : List (List ℕ)) (all : Result (Option (List ℕ)) Flaw)
    → new ≡ (if same then with_value old value else old)
    → together old (if same then value ∷ later else later) ≡ all → together new later ≡ all
slot_next true old new value later all is so_far = rw is (together-next old value later ∙ so_far)
slot_next false old new value later all is so_far = rw is so_far

-- the values of a tag, the first field's before the others'
pub values-cons : (tag : ℕ) (field : TagValue) (fields : List TagValue)
    → values tag (field ∷ fields) ≡ (if field.tag == tag then field.value ∷ values tag fields else values tag fields)
values-cons tag field fields = by_same (field.tag == tag)
  where
    by_same : (same : Bool) → map (λ (f : TagValue). f.value) (if same then field ∷ filter (λ (f : TagValue). f.tag == tag) fields else filter (λ (f : TagValue). f.tag == tag) fields)
        ≡ (if same then field.value ∷ values tag fields else values tag fields)
    by_same true = refl
    by_same false = refl

-- the values of a tag after a field that has it, or hasn't
pub values-has : (tag : ℕ) (field : TagValue) (fields : List TagValue) → (field.tag == tag) ≡ true → values tag (field ∷ fields) ≡ field.value ∷ values tag fields
values-has tag field fields has = values-cons tag field fields ∙ rw has refl

pub values-not : (tag : ℕ) (field : TagValue) (fields : List TagValue) → (field.tag == tag) ≡ false → values tag (field ∷ fields) ≡ values tag fields
values-not tag field fields other = values-cons tag field fields ∙ rw other refl

pub known_next : (fields later : List TagValue) (field : TagValue) (old new : List Occurrence)
    → IsIndexBefore fields (field ∷ later) old → Notes field old new → IsIndexBefore fields later new
known_next fields later field old new known notes tag low =
    slot_next (field.tag == tag) (found_in (slice_index_or old (row_of tag) Missing)) (found_in (slice_index_or new (row_of tag) Missing)) field.value (values tag later) _ (notes tag low) (rw (← values-cons tag field later) (known tag low))

-- occurrences that are all missing know of nothing
pub missing_everywhere : (count tag : ℕ) → tag < count → found_in (slice_index_or (replicate count Missing) tag Missing) ≡ Ok None
missing_everywhere count tag low = rw (get_or-replicate count tag Missing Missing low) refl

-- the fields after a sound one
sound_behind-cons : (before : ℕ) (rest : List Item) (field : TagValue) → field_wrong before field ≡ None
    → sound_behind before (Ok field ∷ rest) ≡ field ∷ sound_behind (before + 1) rest
sound_behind-cons before rest field sound = rw sound refl

-- the fault after a sound field
refused_behind-cons : (before : ℕ) (rest : List Item) (field : TagValue) → field_wrong before field ≡ None
    → refused_behind before (Ok field ∷ rest) ≡ refused_behind (before + 1) rest
refused_behind-cons before rest field sound = rw sound refl

pub known_behind : (all : List TagValue) (before : ℕ) (items rest : List Item) (field : TagValue) (old new : List Occurrence)
    → items ≡ Ok field ∷ rest → field_wrong before field ≡ None → Notes field old new
    → IsIndexBefore all (sound_behind before items) old → IsIndexBefore all (sound_behind (before + 1) rest) new
known_behind all before items rest field old new is sound notes known =
    let P : List TagValue → Type 0 = λ later. IsIndexBefore all later old in
    known_next all (sound_behind (before + 1) rest) field old new (subst P (ap (sound_behind before) is ∙ sound_behind-cons before rest field sound) known) notes

pub refused_later : (all : Option Wrong) (before : ℕ) (items rest : List Item) (field : TagValue)
    → items ≡ Ok field ∷ rest → field_wrong before field ≡ None
    → refused_behind before items ≡ all → refused_behind (before + 1) rest ≡ all
refused_later all before items rest field is sound so_far =
    sym (ap (refused_behind before) is ∙ refused_behind-cons before rest field sound) ∙ so_far

-- a row belongs to one tag
row_of-one : (tag other : ℕ) → row_of tag < ROWS → row_of tag ≡ row_of other → other ≡ tag
row_of-one tag other low same =
    let first : (get_or row_tags (row_of tag) 0 == tag) ≡ true = passes_at_first (λ t. t == tag) row_tags 0 low in
    let second : (get_or row_tags (row_of other) 0 == other) ≡ true = passes_at_first (λ t. t == other) row_tags 0 (omega (arith, low, same)) in
    sym (eqb-true _ _ second) ∙ ap (λ row. get_or row_tags row 0) (sym same) ∙ eqb-true _ _ first

-- the occurrence of a row that is written, or of another
written : (row place : ℕ) (bears : Bool) (old : List Occurrence) (occurrence : Occurrence) (value : List ℕ) → place < length old
    → found_in occurrence ≡ with_value (found_in (slice_index_or old place Missing)) value
    → (row ≡ place → bears ≡ true) → ((row ≡ place → ⊥) → bears ≡ false)
    → found_in (slice_index_or (slice_set old place occurrence) row Missing)
    ≡ (if bears then with_value (found_in (slice_index_or old row Missing)) value else found_in (slice_index_or old row Missing))
written row place bears old occurrence value inside is here there =
    elim (cases_eq row place) [
      | inl same ↦
          rw (here same)
          (ap (λ r. found_in (slice_index_or (slice_set old place occurrence) r Missing)) same
          ∙ ap found_in (get_or-set_same old place occurrence Missing inside)
          ∙ is
          ∙ ap (λ r. with_value (found_in (slice_index_or old r Missing)) value) (sym same))
      | inr other ↦ rw (there other) (ap found_in (get_or-set_other old place row occurrence Missing other))
    ]

-- a field at the row of its tag
pub noted : (field : TagValue) (place : ℕ) (old : List Occurrence) (occurrence : Occurrence) → place ≡ row_of field.tag → place < ROWS → length old ≡ ROWS
    → found_in occurrence ≡ with_value (found_in (slice_index_or old place Missing)) field.value
    → Notes field old (slice_set old place occurrence)
noted field place old occurrence at low long is tag has =
    written (row_of tag) place (field.tag == tag) old occurrence field.value (omega (arith, low, long)) is
    (λ same. eq-eqb _ _ (row_of-one tag field.tag has (same ∙ at)))
    (λ other. ne_eqb _ _ (λ same. other (ap row_of (sym same) ∙ sym at)))

-- a field whose tag has no row
pub unnoted : (field : TagValue) (place : ℕ) (old : List Occurrence) → place ≡ row_of field.tag → ROWS ≤ place → Notes field old old
unnoted field place old at high tag has =
    rw (ne_eqb field.tag tag (λ same. absurd (omega (arith, high, at ∙ ap row_of same, has)))) refl
