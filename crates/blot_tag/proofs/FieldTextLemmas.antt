-- The fields of a text that ends with SOH stand in it one after the other.
use Rattle.std.proofs.Common.{◌≡◌, ◌≢◌, ℕ, zero, suc, ◌+◌, ◌-◌, ◌%◌, ◌<◌, ◌≤◌, true, not, ◌&&◌, ◌==◌, ltb, leb, List, [], ◌∷◌, ◌++◌, length, take, drop, get_or, fold, Option, Some, None, option_and_then, IsNone, MatchOption, codes, sum, Result, Ok, Err, inl, inr, refl, sym, ap, subst, ◌∙◌, arith, rules, append_assoc, length-append, decimal, All, position, ok_or, eqb-true, eq-eqb, leb-true, ltb-true, append-nil, get_or-append-add, get_or-take, take-append-drop, length-take, length-take-le, drop-cons}
use Rattle.std.specs.Char.{is_ascii_digit}
use Rattle.std.specs.List.{list_all, position_or_len, before_first, after_first}
use Rattle.std.proofs.lemmas.Bool.{cases_Bool, cases_lt, and_parts, false≢true, not-true}
use Rattle.std.proofs.lemmas.Fmt.{decimal-digits_value}
use Rattle.std.proofs.lemmas.List.{get_or_at}
use Rattle.std.proofs.lemmas.List.Elements.{All-cons, All-nil}
use Rattle.std.proofs.lemmas.List.Quantifiers.{position-Some}
use Rattle.std.proofs.lemmas.List.Sums.{split_at_first, fails_before_first, passes_at_first, position_or_len_is}
use Rattle.std.proofs.lemmas.Str.Parse.{IsNumeralModel, numerals_by_fold}
use Rattle.blot_tag.specs.Bytes.{soh, is_soh, EndsWithSoh, equals, is_equals, is_number, is_tag, with_digit, number_of, tag_number}
use Rattle.blot_tag.specs.Fields.{TagValue, Item, no_tag, wrong_length, length_before, first_tag, data_value, value_of, first_field, and_then_others, first_items, items_behind, fields_of, fields_before_fault, fault_of}
use Rattle.blot_tag.specs.FieldText.{field_text, fields_text, IsSlice, EndsBehind, EachEnds}
use Rattle.blot_tag.specs.Frames.{three_digits, front_of, IsFrame}
use Rattle.blot_tag.specs.Results.{◌>>=◌}
use Rattle.blot_tag.specs.declared.field.SplitFault.{SplitFault}
use Rattle.blot_tag.proofs.ByteLemmas.{tag_number-lt}
use Rattle.blot_tag.proofs.FieldLemmas.{length-first_field}

-- ---- texts that end with SOH

EndsWithSoh-rest : (front rest : List ℕ) → EndsWithSoh (front ++ rest) → EndsWithSoh rest
EndsWithSoh-rest front rest ends some =
    let whole = length-append front rest in
    let place : length front + (length rest - 1) ≡ length (front ++ rest) - 1 = omega arith in
    sym (get_or-append-add front rest (length rest - 1) 0) ∙ ap (λ i. get_or (front ++ rest) i 0) place ∙ ends (omega arith)

-- such a text doesn't end with `=`
length-behind_equals : (front rest : List ℕ) → EndsWithSoh (front ++ equals ∷ rest) → 0 < length rest
length-behind_equals front [] ends =
    let whole = length-append front (equals ∷ []) in
    let last = get_or_at front equals [] 0 (length (front ++ equals ∷ []) - 1) (omega arith) in
    let soh_is : equals ≡ soh = sym last ∙ ends (omega arith) in
    absurd (omega (arith, soh_is))
length-behind_equals front (byte ∷ rest) ends = omega arith

-- a text is what stands before the first byte of a kind, that byte, and what stands after it
split_at_byte : (byte : ℕ) (text : List ℕ) → position_or_len (λ x. x == byte) text < length text → text ≡ before_first (λ x. x == byte) text ++ byte ∷ after_first (λ x. x == byte) text
split_at_byte byte text inside =
    let here = eqb-true _ byte (passes_at_first (λ x. x == byte) text 0 inside) in
    split_at_first (λ x. x == byte) text 0 inside
    ∙ ap (λ b. before_first (λ x. x == byte) text ++ b ∷ after_first (λ x. x == byte) text) here

-- an SOH stands in such a text
first_soh-inside : (text : List ℕ) → EndsWithSoh text → 0 < length text → position_or_len is_soh text < length text
first_soh-inside text ends some =
    elim (cases_lt (position_or_len is_soh text) (length text)) [
      | inl inside ↦ inside
      | inr over ↦
          let fails = fails_before_first is_soh text (length text - 1) 0 (omega arith) in
          absurd (false≢true (sym fails ∙ eq-eqb _ soh (ends some)))
    ]

-- no SOH stands before the first one
before_first_soh : (text : List ℕ) → All (λ byte. byte ≢ soh) (before_first is_soh text)
before_first_soh text k d inside same =
    let size = length-take (position_or_len is_soh text) text in
    let read = get_or-take (position_or_len is_soh text) text k d (omega arith) in
    false≢true (sym (fails_before_first is_soh text k d (omega arith)) ∙ eq-eqb _ soh (sym read ∙ same))

-- ---- a tag

pub numeral : IsNumeralModel (λ digits. list_all is_ascii_digit digits ≡ true) number_of
numeral = numerals_by_fold _ (search rules) (fold with_digit) (search rules)

-- the digits of a tag are the shortest decimal of its number
decimal-tag : (digits : List ℕ) (tag : ℕ) → tag_number digits ≡ Some tag → decimal tag ≡ digits
unfolding tag_number
decimal-tag digits tag is =
    elim (cases_Bool (is_tag digits)) [
      | inl holds ↦
          let parts = and_parts (is_number digits && leb (length digits) 9) (not (get_or digits 0 0 == 48)) holds in
          let short = and_parts (is_number digits) (leb (length digits) 9) parts.0 in
          let number = and_parts (leb 1 (length digits)) (list_all is_ascii_digit digits) short.0 in
          let same : number_of digits ≡ tag = cc in
          let few = leb-true (length digits) 9 short.1 in
          ap (λ n. decimal n) (sym same)
          ∙ decimal-digits_value numeral digits number.1 (omega (arith, leb-true 1 (length digits) number.0))
          (λ zero. absurd (false≢true (sym (not-true _ parts.1) ∙ eq-eqb _ 48 zero)))
          (omega (arith, tag_number-lt digits short.0 few))
      | inr fails ↦ cc
    ]

-- a text that begins with a tag is its decimal, `=`, and what stands after it
first_tag-text : (text : List ℕ) (tag : ℕ) → first_tag text ≡ Some tag → text ≡ decimal tag ++ equals ∷ after_first is_equals text
first_tag-text text tag is = by_place (position is_equals text) refl is
  where
    by_place : (place : Option ℕ) → position is_equals text ≡ place → option_and_then (λ p. tag_number (take p text)) place ≡ Some tag → text ≡ decimal tag ++ equals ∷ after_first is_equals text
    by_place None at found = cc
    by_place (Some place) at found =
        let first = position-Some is_equals text place 0 at in
        let same : position_or_len is_equals text ≡ place = position_or_len_is is_equals text place 0 (omega (arith, first.0)) first.2 (λ inside. first.1) in
        let digits : before_first is_equals text ≡ decimal tag = ap (λ p. take p text) same ∙ sym (decimal-tag (take place text) tag found) in
        split_at_byte equals text (omega (arith, same, first.0))
        ∙ ap (λ front. front ++ equals ∷ after_first is_equals text) digits

-- what stands behind the tag of a text that ends with SOH is some text that ends with it
behind_tag : (text : List ℕ) (tag : ℕ) → EndsWithSoh text → first_tag text ≡ Some tag
    → (0 < length (after_first is_equals text)) × EndsWithSoh (after_first is_equals text)
behind_tag text tag ends is =
    let rest : List ℕ = after_first is_equals text in
    let front_ends = subst EndsWithSoh (first_tag-text text tag is) ends in (
      length-behind_equals (decimal tag) rest front_ends,
      EndsWithSoh-rest (decimal tag ++ equals ∷ []) rest (subst EndsWithSoh (simp append_assoc) front_ends),
    )

-- so an SOH stands behind the tag of a text that ends with one
pub soh_behind_tag : (text : List ℕ) (tag : ℕ) → EndsWithSoh text → first_tag text ≡ Some tag
    → position_or_len is_soh (after_first is_equals text) < length (after_first is_equals text)
soh_behind_tag text tag ends is =
    let behind = behind_tag text tag ends is in
    first_soh-inside (after_first is_equals text) behind.1 behind.0

-- ---- a value

-- a value, SOH and what stands after it
record IsCut (size : Option (List ℕ)) (rest : List ℕ) (cut : List ℕ × List ℕ) : Type 0 where
  whole : rest ≡ cut.0 ++ soh ∷ cut.1
  ends : MatchOption size (All (λ byte. byte ≢ soh) cut.0) (λ digits. (is_number digits ≡ true) × (length cut.0 ≡ number_of digits))

data_value-cut : (digits rest : List ℕ) (cut : List ℕ × List ℕ) → data_value digits rest ≡ Some cut → IsCut (Some digits) rest cut
unfolding data_value
data_value-cut digits rest cut is =
    let size = number_of digits in
    elim (cases_Bool (is_number digits && ltb (size + 7) (length rest) && is_soh (get_or rest size 0))) [
      | inl holds ↦
          let same : (take size rest, drop (size + 1) rest) ≡ cut = cc in
          let parts = and_parts (is_number digits && ltb (size + 7) (length rest)) (is_soh (get_or rest size 0)) holds in
          let number = and_parts (is_number digits) (ltb (size + 7) (length rest)) parts.0 in
          let inside = ltb-true (size + 7) (length rest) number.1 in
          let next : suc size ≡ size + 1 = omega arith in
          subst (IsCut (Some digits) rest) same (record {
            whole = sym (take-append-drop size rest) ∙ ap (λ r. take size rest ++ r) (drop-cons rest size 0 (omega arith) ∙ ap (λ b. b ∷ drop (suc size) rest) (eqb-true _ soh parts.1) ∙ ap (λ k. soh ∷ drop k rest) next);
            ends = (number.0, length-take-le size rest (omega arith));
          })
      | inr fails ↦ cc
    ]

value_of-cut : (size : Option (List ℕ)) (tag : ℕ) (rest : List ℕ) (cut : List ℕ × List ℕ) → EndsWithSoh rest → 0 < length rest → value_of size tag rest ≡ Ok cut → IsCut size rest cut
value_of-cut None tag rest cut ends some is =
    let same : (before_first is_soh rest, after_first is_soh rest) ≡ cut = cc in
    subst (IsCut None rest) same (record {
      whole = split_at_byte soh rest (first_soh-inside rest ends some);
      ends = before_first_soh rest;
    })
value_of-cut (Some digits) tag rest cut ends some is = by_value (data_value digits rest) refl is
  where
    by_value : (value : Option (List ℕ × List ℕ)) → data_value digits rest ≡ value → ok_or value (wrong_length tag) ≡ Ok cut → IsCut (Some digits) rest cut
    by_value None at found = cc
    by_value (Some got) at found = let same : got ≡ cut = cc in subst (IsCut (Some digits) rest) same (data_value-cut digits rest got at)

-- ---- a field, and those after it

-- the field begins the text and ends where it has to, and a text that ends with SOH is left
pub record IsFirst (before : Option TagValue) (text : List ℕ) (split : TagValue × List ℕ) : Type 0 where
  pub whole : text ≡ field_text split.0 ++ split.1
  pub ends : EndsBehind before split.0
  pub later : EndsWithSoh split.1

field_first : (before : Option TagValue) (text rest : List ℕ) (tag : ℕ) (cut : List ℕ × List ℕ) → EndsWithSoh text → text ≡ decimal tag ++ equals ∷ rest → IsCut (length_before before tag) rest cut → IsFirst before text (record { tag = tag; value = cut.0 }, cut.1)
field_first before text rest tag cut ends tag_is is =
    let field : TagValue = record { tag = tag; value = cut.0 } in
    let whole : text ≡ field_text field ++ cut.1 = tag_is ∙ ap (λ r. decimal tag ++ equals ∷ r) is.whole ∙ simp append_assoc in
    record {
      whole = whole;
      ends = is.ends;
      later = EndsWithSoh-rest (field_text field) cut.1 (subst EndsWithSoh whole ends);
    }

pub first_field-first : (before : Option TagValue) (text : List ℕ) (split : TagValue × List ℕ) → EndsWithSoh text → first_field before text ≡ Ok split → IsFirst before text split
unfolding first_field
first_field-first before text split ends is = by_tag (first_tag text) refl is
  where
    rest : List ℕ
    rest = after_first is_equals text

    by_value : (tag : ℕ) → first_tag text ≡ Some tag → (value : Result (List ℕ × List ℕ) SplitFault) → value_of (length_before before tag) tag rest ≡ value → (do
      cut ← value
      Ok (record { tag = tag; value = cut.0 }, cut.1)) ≡ Ok split → IsFirst before text split
    by_value tag at (Err fault) got found = cc
    by_value tag at (Ok cut) got found =
        let same : (record { tag = tag; value = cut.0 }, cut.1) ≡ split = cc in
        let behind = behind_tag text tag ends at in
        subst (IsFirst before text) same
        (field_first before text rest tag cut ends (first_tag-text text tag at) (value_of-cut (length_before before tag) tag rest cut behind.1 behind.0 got))

    by_tag : (tag : Option ℕ) → first_tag text ≡ tag → (do
      tag ← ok_or tag no_tag
      cut ← value_of (length_before before tag) tag rest
      Ok (record { tag = tag; value = cut.0 }, cut.1)) ≡ Ok split → IsFirst before text split
    by_tag None at found = cc
    by_tag (Some tag) at found = by_value tag at (value_of (length_before before tag) tag rest) refl found

-- the fields before the first fault begin the text; without a fault they are all of it
pub record StandIn (before : Option TagValue) (text : List ℕ) (items : List Item) : Type 0 where
  pub rest : List ℕ
  pub whole : text ≡ fields_text (fields_before_fault items) ++ rest
  pub all : IsNone (fault_of items) → rest ≡ []
  pub ends : EachEnds before (fields_before_fault items)

StandIn-nil : (before : Option TagValue) → StandIn before [] []
StandIn-nil before = record { rest = []; whole = refl; all = λ none. refl; ends = tt }

-- a field, and those after it
StandIn-step : (n : ℕ) (before : Option TagValue) (text : List ℕ) (split : Result (TagValue × List ℕ) SplitFault) → first_field before text ≡ split → 0 < length text → EndsWithSoh text → ((cut : TagValue × List ℕ) → first_field before text ≡ Ok cut → EndsWithSoh cut.1 → StandIn (Some cut.0) cut.1 (first_items n (Some cut.0) cut.1)) → StandIn before text (and_then_others (first_items n) split)
StandIn-step n before text (Ok cut) is some ends others =
    let first = first_field-first before text cut ends is in
    let later = others cut is first.later in
    let fields = fields_before_fault (first_items n (Some cut.0) cut.1) in
    record {
      rest = later.rest;
      whole = first.whole ∙ ap (λ r. field_text cut.0 ++ r) later.whole ∙ sym (append_assoc (field_text cut.0) (fields_text fields) later.rest);
      all = later.all;
      ends = (first.ends, later.ends);
    }
StandIn-step n before text (Err fault) is some ends others =
    record { rest = text; whole = refl; all = λ none. cc; ends = tt }

first_items-stand : (n : ℕ) (before : Option TagValue) (text : List ℕ) → length text ≤ n → EndsWithSoh text → StandIn before text (first_items n before text)
unfolding first_items
first_items-stand zero before [] few ends = StandIn-nil before
first_items-stand zero before (byte ∷ bytes) few ends = absurd (omega arith)
first_items-stand (suc n) before [] few ends = StandIn-nil before
first_items-stand (suc n) before (byte ∷ bytes) few ends =
    StandIn-step n before (byte ∷ bytes) (first_field before (byte ∷ bytes)) refl (omega arith) ends
    (λ split is later. first_items-stand n (Some split.0) split.1 (omega (arith, length-first_field before (byte ∷ bytes) split (omega arith) is)) later)

pub fields_of-stand : (text : List ℕ) → EndsWithSoh text → StandIn None text (fields_of text)
unfolding items_behind
fields_of-stand text ends = first_items-stand (length text) None text (omega arith) ends

-- ---- slices

values_are_slices : (front text rest : List ℕ) (fields : List TagValue) → text ≡ front ++ (fields_text fields ++ rest) → All (λ field. IsSlice field.value text) fields
values_are_slices front text rest [] is = All-nil _
values_are_slices front text rest (field ∷ fields) is =
    All-cons (λ field. IsSlice field.value text) field fields
    (record {
      before = front ++ (decimal field.tag ++ equals ∷ []);
      behind = soh ∷ (fields_text fields ++ rest);
      whole = is ∙ simp append_assoc;
    })
    (values_are_slices (front ++ field_text field) text rest fields (is ∙ simp append_assoc))

pub StandIn-slices : (text : List ℕ) (items : List Item) → StandIn None text items → All (λ field. IsSlice field.value text) (fields_before_fault items)
StandIn-slices text items is = values_are_slices [] text is.rest (fields_before_fault items) is.whole

-- ---- frames

EndsWithSoh-push : (front : List ℕ) → EndsWithSoh (front ++ soh ∷ [])
EndsWithSoh-push front some =
    let whole = length-append front (soh ∷ []) in
    get_or_at front soh [] 0 (length (front ++ soh ∷ []) - 1) (omega arith)

pub EndsWithSoh-frame : (text : List ℕ) → IsFrame text → EndsWithSoh text
EndsWithSoh-frame text is =
    let front = front_of is.digits is.body in
    let trailer = codes "10=" ++ three_digits (sum front % 256) in
    subst EndsWithSoh (append_assoc front trailer (soh ∷ []) ∙ sym is.whole) (EndsWithSoh-push (front ++ trailer))

-- the fields of a frame stand in it
pub frame_fields-stand : (text : List ℕ) (items : List Item) → IsFrame text → items ≡ fields_of text → StandIn None text items
frame_fields-stand text items is same =
    subst (StandIn None text) (sym same) (fields_of-stand text (EndsWithSoh-frame text is))

pub StandIn-whole : (text : List ℕ) (items : List Item) → StandIn None text items → IsNone (fault_of items) → fields_text (fields_before_fault items) ≡ text
StandIn-whole text items is none =
    sym (is.whole ∙ ap (λ rest. fields_text (fields_before_fault items) ++ rest) (is.all none) ∙ append-nil (fields_text (fields_before_fault items)))
