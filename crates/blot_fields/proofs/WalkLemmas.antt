-- The walk ends at the first field that is refused.
use Rattle.std.proofs.Common.{◌≡◌, ℕ, ◌+◌, ◌≤◌, ◌<◌, List, [], ◌∷◌, length, Option, Some, None, Ok, Err, refl, ap, arith, is_none, Bool, true, false, if◌then◌else◌, nat_lt}
use borrow.Author.Tests.{ltb-true}
use Rattle.blot_tag.specs.Fields.{TagValue, Item}
use Rattle.blot_fields.specs.declared.{fault.Wrong.Wrong, sound.TheConstants.FIELDS_MAX}
use Rattle.blot_fields.specs.Walk.{field_wrong, sound_field, with_others, sound_behind}

-- a choice that isn't its second answer
is_first : {A : Type 0} (first : Bool) (a : Option A) (b : A) → (if first then a else Some b) ≡ None → first ≡ true
is_first true a b none = refl
is_first false a b none = absurd cc

-- a field that isn't refused is one of the first 2,000
pub field_wrong-few : (before : ℕ) (field : TagValue) → field_wrong before field ≡ None → before < FIELDS_MAX
unfolding field_wrong
field_wrong-few before field sound = ltb-true before FIELDS_MAX (is_first (nat_lt before FIELDS_MAX) _ _ sound)

-- after 2,000 fields each is refused
sound_field-last : (item : Item) → sound_field FIELDS_MAX item ≡ None
unfolding field_wrong
sound_field-last (Ok field) = refl
sound_field-last (Err fault) = refl

pub sound_behind-last : (items : List Item) → sound_behind FIELDS_MAX items ≡ []
sound_behind-last [] = refl
sound_behind-last (item ∷ items) = ap (λ found. with_others found (sound_behind 2001 items)) (sound_field-last item)

pub sound_behind-none : (before : ℕ) (item : Item) (items : List Item) → sound_field before item ≡ None → sound_behind before (item ∷ items) ≡ []
sound_behind-none before item items none = ap (λ found. with_others found (sound_behind (before + 1) items)) none

-- a choice that isn't nothing
is_none_then : (found : Option Wrong) (field other : TagValue) → (if is_none found then Some field else None) ≡ Some other → found ≡ None
is_none_then None field other some = refl
is_none_then (Some wrong) field other some = absurd cc

sound_field-few : (before : ℕ) (item : Item) (field : TagValue) → sound_field before item ≡ Some field → before < FIELDS_MAX
sound_field-few before (Ok first) field some = field_wrong-few before first (is_none_then (field_wrong before first) first field some)
sound_field-few before (Err fault) field some = absurd cc

-- after so many fields at most 2,000 less that many come
length-with_others : (before : ℕ) (item : Item) (others : List TagValue) (found : Option TagValue) → before ≤ FIELDS_MAX
    → sound_field before item ≡ found → (before < FIELDS_MAX → length others + (before + 1) ≤ FIELDS_MAX) → length (with_others found others) + before ≤ FIELDS_MAX
length-with_others before item others None few is more = omega arith
length-with_others before item others (Some field) few is more =
    let low = sound_field-few before item field is in
    omega (arith, more low)

length-sound_behind : (before : ℕ) (items : List Item) → before ≤ FIELDS_MAX → length (sound_behind before items) + before ≤ FIELDS_MAX
length-sound_behind before [] few = omega arith
length-sound_behind before (item ∷ items) few =
    length-with_others before item (sound_behind (before + 1) items) (sound_field before item) few refl (λ low. length-sound_behind (before + 1) items (omega arith))

pub length-sound_fields : (items : List Item) → length (sound_behind 0 items) ≤ FIELDS_MAX
length-sound_fields items = omega (arith, length-sound_behind 0 items (omega arith))
