-- What is written is a valid frame, and its fields are read again as they were put.
use Rattle.std.proofs.Common.{◌≡◌, ◌≢◌, ℕ, ◌+◌, ◌-◌, ◌/◌, ◌%◌, ◌^◌, ◌<◌, ◌≤◌, true, false, not, ◌&&◌, ◌==◌, ltb, leb, List, [], ◌∷◌, ◌++◌, length, take, drop, get_or, map, sum, codes, Option, Some, None, option_and_then, Result, Ok, inl, inr, refl, sym, ap, subst, ◌∙◌, arith, append_assoc, length-append, lit≤, lit<, decimal, All, position, ok_or, ltb-false, eq-eqb, ne_eqb, lt-ltb, le-leb, take_at, drop_at, append-nil}
use Rattle.std.specs.Char.{is_ascii_digit}
use Rattle.std.specs.List.{list_any, position_or_len, before_first, after_first}
use Rattle.std.specs.Map.{lookup}
use Rattle.std.specs.Option.{option_eq}
use Rattle.std.proofs.lemmas.Bool.{cases_Bool, cond-true, cond-false, and_from, or_from, or_parts, false≢true, not_from_false}
use Rattle.std.proofs.lemmas.Fmt.{digits_decimal, digits_value-decimal, length-decimal-le, decimal_nonempty, first_decimal, decimal_digit, decimal_step}
use Rattle.std.proofs.lemmas.List.{get_or_append_left, get_or_at, length_push}
use Rattle.std.proofs.lemmas.List.Concat.{flat_map-append}
use Rattle.std.proofs.lemmas.List.Sums.{position_or_len_is, AllPass-from_list_all}
use Rattle.std.proofs.lemmas.List.Folds.{list_any_at, list_any_none}
use Rattle.blot_tag.specs.Bytes.{soh, is_soh, equals, is_equals, is_number, is_tag, number_of, tag_number}
use Rattle.blot_tag.specs.Fields.{TagValue, Item, no_tag, wrong_length, length_and_data_tags, length_before, first_tag, data_value, value_of, first_field, items_behind, fields_of, fields_before_fault}
use Rattle.blot_tag.specs.FieldText.{field_text, fields_text}
use Rattle.blot_tag.specs.Frames.{head, three_digits, trailer_of, front_of, IsBodyLength, IsBody, IsFrame}
use Rattle.blot_tag.specs.Results.{◌>>=◌}
use Rattle.blot_tag.specs.Walking.{walk_of, takes}
use Rattle.blot_tag.specs.Writing.{Written, kind_field, body_of, front_text, frame_of, begin_field, length_field, check_sum_field, frame_fields, begun, with_field, refusal_of, last_of, last_field, is_data_tag, has_soh, IsLengthOf, MayFollow, value_of_first, written_of, Follows, EachFollows, IsWritten, IsBodyText}
use Rattle.blot_tag.specs.declared.{look.TheConstants.SIZE_MAX, field.SplitFault.SplitFault}
use Rattle.blot_tag.proofs.FieldLemmas.{items_behind-nil, items_behind-of}
use Rattle.blot_tag.proofs.FieldTextLemmas.{numeral}
use Rattle.blot_tag.proofs.FrameLemmas.{look_of-frame}
use Rattle.blot_tag.proofs.WalkLemmas.{walk_of-frame}

-- ---- the first byte of a kind

first_place : (byte : ℕ) (front later : List ℕ) → All (λ b. b ≢ byte) front → position_or_len (λ b. b == byte) (front ++ byte ∷ later) ≡ length front
first_place byte front later none =
    position_or_len_is (λ b. b == byte) (front ++ byte ∷ later) (length front) 0 (omega (arith, length-append front (byte ∷ later)))
    (λ k inside. ne_eqb _ byte (λ same. none k 0 inside (sym (get_or_append_left front (byte ∷ later) 0 k inside) ∙ same)))
    (λ inside. eq-eqb _ byte (get_or_at front byte later 0 (length front) refl))

drop_behind : (byte : ℕ) (front later : List ℕ) → drop (length front + 1) (front ++ byte ∷ later) ≡ later
drop_behind byte front later =
    ap (λ text. drop (length front + 1) text) (sym (append_assoc front (byte ∷ []) later))
    ∙ drop_at (front ++ byte ∷ []) later (length front + 1) (length_push front byte)

after_place : (byte : ℕ) (front later : List ℕ) → All (λ b. b ≢ byte) front → after_first (λ b. b == byte) (front ++ byte ∷ later) ≡ later
after_place byte front later none =
    ap (λ k. drop (k + 1) (front ++ byte ∷ later)) (first_place byte front later none) ∙ drop_behind byte front later

before_place : (byte : ℕ) (front later : List ℕ) → All (λ b. b ≢ byte) front → before_first (λ b. b == byte) (front ++ byte ∷ later) ≡ front
before_place byte front later none =
    ap (λ k. take k (front ++ byte ∷ later)) (first_place byte front later none) ∙ take_at front (byte ∷ later) (length front) refl

without_soh : (bytes : List ℕ) → has_soh bytes ≡ false → All (λ b. b ≢ soh) bytes
without_soh bytes none k d inside same =
    false≢true (sym none ∙ list_any_at is_soh bytes k d inside (eq-eqb _ soh same))

-- ---- tags

decimal-plain : (n : ℕ) → n < 2 ^ 64 → All (λ b. b ≢ equals) (decimal n)
decimal-plain n small k d inside same =
    let all = AllPass-from_list_all is_ascii_digit (decimal n) (digits_decimal numeral n small) in
    false≢true (sym (ap is_ascii_digit same) ∙ all k d inside)

tag_number-decimal : (tag : ℕ) → 1 ≤ tag → tag < 10 ^ 9 → tag_number (decimal tag) ≡ Some tag
unfolding tag_number
tag_number-decimal tag low high =
    let small : tag < 2 ^ 64 = omega arith in
    let all = digits_decimal numeral tag small in
    let some : leb 1 (length (decimal tag)) ≡ true = le-leb 1 _ (omega (arith, decimal_nonempty tag small)) in
    let few : leb (length (decimal tag)) 9 ≡ true = le-leb _ 9 (length-decimal-le 9 tag (lit< tt) high small) in
    let first : not (get_or (decimal tag) 0 0 == 48) ≡ true = not_from_false _ (ne_eqb _ 48 (λ zero. absurd (omega (arith, first_decimal tag (omega arith) small, zero)))) in
    let holds : is_tag (decimal tag) ≡ true = and_from _ _ (and_from _ _ (and_from _ _ some all) few) first in
    cond-true (is_tag (decimal tag)) (Some (number_of (decimal tag))) None holds ∙ ap Some (digits_value-decimal numeral tag small)

first_tag-decimal : (tag : ℕ) (rest : List ℕ) → 1 ≤ tag → tag < 10 ^ 9 → first_tag (decimal tag ++ equals ∷ rest) ≡ Some tag
first_tag-decimal tag rest low high =
    let text = decimal tag ++ equals ∷ rest in
    let place = first_place equals (decimal tag) rest (decimal-plain tag (omega arith)) in
    let inside : ltb (position_or_len is_equals text) (length text) ≡ true = lt-ltb _ _ (omega (arith, place, length-append (decimal tag) (equals ∷ rest))) in
    let at : position is_equals text ≡ Some (length (decimal tag)) = cond-true _ (Some (position_or_len is_equals text)) None inside ∙ ap Some place in
    ap (option_and_then (λ p. tag_number (take p text))) at
    ∙ ap tag_number (take_at (decimal tag) (equals ∷ rest) (length (decimal tag)) refl)
    ∙ tag_number-decimal tag low high

-- ---- values

value_of-plain : (tag : ℕ) (value later : List ℕ) → All (λ b. b ≢ soh) value → value_of None tag (value ++ soh ∷ later) ≡ Ok (value, later)
value_of-plain tag value later none =
    ap (λ v. Ok (v, after_first is_soh (value ++ soh ∷ later))) (before_place soh value later none)
    ∙ ap (λ r. Ok (value, r)) (after_place soh value later none)

data_value-text : (digits value later : List ℕ) → is_number digits ≡ true → number_of digits ≡ length value → 7 ≤ length later → data_value digits (value ++ soh ∷ later) ≡ Some (value, later)
unfolding data_value
data_value-text digits value later number size long =
    let rest = value ++ soh ∷ later in
    let inside : ltb (number_of digits + 7) (length rest) ≡ true = lt-ltb _ _ (omega (arith, size, length-append value (soh ∷ later))) in
    let ends : is_soh (get_or rest (number_of digits) 0) ≡ true = eq-eqb _ soh (ap (λ k. get_or rest k 0) size ∙ get_or_at value soh later 0 (length value) refl) in
    cond-true _ (Some (take (number_of digits) rest, drop (number_of digits + 1) rest)) None (and_from _ _ (and_from _ _ number inside) ends)
    ∙ ap (λ k. Some (take k rest, drop (k + 1) rest)) size
    ∙ ap (λ v. Some (v, drop (length value + 1) rest)) (take_at value (soh ∷ later) (length value) refl)
    ∙ ap (λ r. Some (value, r)) (drop_behind soh value later)

-- a tag whose pair isn't in a table isn't found in it
lookup-other : (pairs : List (ℕ × ℕ)) (key tag : ℕ) → list_any (λ pair. pair.1 == tag) pairs ≡ false → option_eq (λ a b. a == b) (lookup (λ k. key == k) pairs) (Some tag) ≡ false
lookup-other [] key tag none = refl
lookup-other (pair ∷ pairs) key tag none =
    let parts = or_parts (pair.1 == tag) (list_any (λ p. p.1 == tag) pairs) none in
    elim (cases_Bool (key == pair.0)) [
      | inl here ↦ ap (λ found. option_eq (λ a b. a == b) found (Some tag)) (cond-true (key == pair.0) (Some pair.1) (lookup (λ k. key == k) pairs) here) ∙ parts.0
      | inr other ↦ ap (λ found. option_eq (λ a b. a == b) found (Some tag)) (cond-false (key == pair.0) (Some pair.1) (lookup (λ k. key == k) pairs) other) ∙ lookup-other pairs key tag parts.1
    ]

length_before-plain : (before : TagValue) (tag : ℕ) → is_data_tag tag ≡ false → length_before (Some before) tag ≡ None
length_before-plain before tag plain =
    cond-false _ (Some before.value) None (lookup-other length_and_data_tags before.tag tag plain)

length_before-data : (before field : TagValue) → IsLengthOf field before → length_before (Some before) field.tag ≡ Some before.value
length_before-data before field is =
    cond-true _ (Some before.value) None (ap (λ found. option_eq (λ a b. a == b) found (Some field.tag)) is.pair ∙ eq-eqb field.tag field.tag refl)

-- ---- fields

-- a field that begins a text, where its value is found
first_field-text : (before : Option TagValue) (field : TagValue) (later : List ℕ) → 1 ≤ field.tag → field.tag < 10 ^ 9 → value_of (length_before before field.tag) field.tag (field.value ++ soh ∷ later) ≡ Ok (field.value, later) → first_field before (field_text field ++ later) ≡ Ok (field, later)
unfolding first_field
first_field-text before field later low high found =
    let rest = field.value ++ soh ∷ later in
    let text = decimal field.tag ++ equals ∷ rest in
    let shape : field_text field ++ later ≡ text = simp append_assoc in
    let behind : after_first is_equals text ≡ rest = after_place equals (decimal field.tag) rest (decimal-plain field.tag (omega arith)) in
    let cut : List ℕ → Result (TagValue × List ℕ) SplitFault = λ r. (do
      c ← value_of (length_before before field.tag) field.tag r
      Ok (record { tag = field.tag; value = c.0 }, c.1)) in
    let tagged : Option ℕ → Result (TagValue × List ℕ) SplitFault = λ found_tag. (do
      tag ← ok_or found_tag no_tag
      c ← value_of (length_before before tag) tag (after_first is_equals text)
      Ok (record { tag = tag; value = c.0 }, c.1)) in
    let finish : Result (List ℕ × List ℕ) SplitFault → Result (TagValue × List ℕ) SplitFault = λ value. (do
      c ← value
      Ok (record { tag = field.tag; value = c.0 }, c.1)) in
    ap (first_field before) shape ∙ ap tagged (first_tag-decimal field.tag rest low high) ∙ ap cut behind ∙ ap finish found

length-field_text : (field : TagValue) (later : List ℕ) → 0 < length (field_text field ++ later)
length-field_text field later = omega (arith, length-append (field_text field) later, length-append (decimal field.tag) (equals ∷ (field.value ++ soh ∷ [])))

-- a field that begins a text, and those after it
items_behind-field : (before : Option TagValue) (field : TagValue) (later : List ℕ) → 1 ≤ field.tag → field.tag < 10 ^ 9 → value_of (length_before before field.tag) field.tag (field.value ++ soh ∷ later) ≡ Ok (field.value, later) → items_behind before (field_text field ++ later) ≡ Ok field ∷ items_behind (Some field) later
items_behind-field before field later low high found =
    items_behind-of before (field_text field ++ later) (Ok (field, later)) (length-field_text field later) (sym (first_field-text before field later low high found))

value-follows : (before field : TagValue) (later : List ℕ) → Follows before field → 7 ≤ length later → value_of (length_before (Some before) field.tag) field.tag (field.value ++ soh ∷ later) ≡ Ok (field.value, later)
value-follows before field later is long =
    elim (cases_Bool (is_data_tag field.tag)) [
      | inl data_is ↦
          let length_is = is.paired data_is in
          ap (λ size. value_of size field.tag (field.value ++ soh ∷ later)) (length_before-data before field length_is)
          ∙ ap (λ value. ok_or value (wrong_length field.tag)) (data_value-text before.value field.value later length_is.number length_is.size long)
      | inr plain ↦
          ap (λ size. value_of size field.tag (field.value ++ soh ∷ later)) (length_before-plain before field.tag plain)
          ∙ value_of-plain field.tag field.value later (without_soh field.value (is.plain plain))
    ]

length-fields_text : (fields : List TagValue) (later : List ℕ) → length later ≤ length (fields_text fields ++ later)
length-fields_text fields later = omega (arith, length-append (fields_text fields) later)

items_behind-fields : (before : TagValue) (fields : List TagValue) (later : List ℕ) → EachFollows before fields → 7 ≤ length later → items_behind (Some before) (fields_text fields ++ later) ≡ map Ok fields ++ items_behind (Some (last_of before fields)) later
items_behind-fields before [] later is long = refl
items_behind-fields before (field ∷ fields) later is long =
    let rest = fields_text fields ++ later in
    ap (items_behind (Some before)) (append_assoc (field_text field) (fields_text fields) later)
    ∙ items_behind-field (Some before) field rest is.0.low is.0.high (value-follows before field rest is.0 (omega (arith, length-fields_text fields later)))
    ∙ ap (λ items. Ok field ∷ items) (items_behind-fields field fields later is.1 long)

-- ---- CheckSum

digit-plain : (n : ℕ) → is_soh (48 + n) ≡ false
digit-plain n = ne_eqb (48 + n) soh (λ same. absurd (omega (arith, same)))

three_digits-plain : (n : ℕ) → has_soh (three_digits n) ≡ false
three_digits-plain n = or_from _ _ (digit-plain (n / 100)) (or_from _ _ (digit-plain (n / 10 % 10)) (or_from _ _ (digit-plain (n % 10)) refl))

decimal-10 : decimal 10 ≡ codes "10"
decimal-10 = decimal_step 10 (lit≤ tt) (lit< tt) ∙ ap (λ d. d ++ 48 ∷ []) (decimal_digit 1 (lit< tt))

trailer_of-text : (front : List ℕ) → trailer_of front ≡ field_text (check_sum_field front)
trailer_of-text front = ap (λ d. d ++ equals ∷ (three_digits (sum front % 256) ++ soh ∷ [])) (sym decimal-10)

items_behind-trailer : (before : TagValue) (front : List ℕ) → items_behind (Some before) (trailer_of front) ≡ Ok (check_sum_field front) ∷ []
items_behind-trailer before front =
    ap (items_behind (Some before)) (trailer_of-text front ∙ sym (append-nil (field_text (check_sum_field front))))
    ∙ items_behind-field (Some before) (check_sum_field front) [] (lit≤ tt) (lit< tt)
    (ap (λ size. value_of size 10 (three_digits (sum front % 256) ++ soh ∷ [])) (length_before-plain before 10 refl)
    ∙ value_of-plain 10 (three_digits (sum front % 256)) [] (without_soh (three_digits (sum front % 256)) (three_digits-plain (sum front % 256))))
    ∙ ap (λ items. Ok (check_sum_field front) ∷ items) (items_behind-nil (Some (check_sum_field front)))

-- ---- a body, read again

map_ok-push : (fields : List TagValue) (field : TagValue) → ◌++◌ {A = Item} (map Ok fields) (Ok field ∷ []) ≡ map Ok (fields ++ field ∷ [])
map_ok-push [] field = refl
map_ok-push (next ∷ fields) field = ap (λ items. Ok next ∷ items) (map_ok-push fields field)

-- fields that stand well one after another, with the first before them and CheckSum after them
fields_of-written : (first : TagValue) (fields : List TagValue) (front : List ℕ) → 1 ≤ first.tag → first.tag < 10 ^ 9 → has_soh first.value ≡ false → EachFollows first fields → fields_of (fields_text (first ∷ fields) ++ trailer_of front) ≡ map Ok (first ∷ (fields ++ check_sum_field front ∷ []))
fields_of-written first fields front low high plain follow =
    let later = fields_text fields ++ trailer_of front in
    ap fields_of (append_assoc (field_text first) (fields_text fields) (trailer_of front))
    ∙ items_behind-field None first later low high (value_of-plain first.tag first.value later (without_soh first.value plain))
    ∙ ap (λ items. Ok first ∷ items)
    (items_behind-fields first fields (trailer_of front) follow (lit≤ tt)
    ∙ ap (λ items. map Ok fields ++ items) (items_behind-trailer (last_of first fields) front)
    ∙ map_ok-push fields (check_sum_field front))

fields_before_fault-map : (fields : List TagValue) → fields_before_fault (map Ok fields) ≡ fields
fields_before_fault-map [] = refl
fields_before_fault-map (field ∷ fields) = ap (λ others. field ∷ others) (fields_before_fault-map fields)

pub written_of-body : (written : Written) → IsWritten written → written_of (body_of written) ≡ written
unfolding written_of
written_of-body written is =
    let first = kind_field written.kind in
    let last = check_sum_field [] in
    let found : fields_before_fault (fields_of (body_of written ++ trailer_of [])) ≡ first ∷ (written.fields ++ last ∷ []) =
    ap fields_before_fault (fields_of-written first written.fields [] (lit≤ tt) (lit< tt) is.plain is.follow)
    ∙ fields_before_fault-map (first ∷ (written.fields ++ last ∷ [])) in
    let count : length (first ∷ (written.fields ++ last ∷ [])) - 2 ≡ length written.fields = omega (arith, length_push written.fields last) in
    ap (λ fields. record { kind = value_of_first fields; fields = take (length fields - 2) (drop 1 fields) }) found
    ∙ ap (λ n. record { kind = written.kind; fields = take n (written.fields ++ last ∷ []) }) count
    ∙ ap (λ fields. record { kind = written.kind; fields = fields }) (take_at written.fields (last ∷ []) (length written.fields) refl)

-- ---- the frame

-- a body ends with SOH
fields_text-end : (field : TagValue) (fields : List TagValue) → (front : List ℕ) × (fields_text (field ∷ fields) ≡ front ++ soh ∷ [])
fields_text-end field [] = (decimal field.tag ++ equals ∷ field.value, simp append_assoc)
fields_text-end field (next ∷ fields) =
    let end = fields_text-end next fields in
    (field_text field ++ end.0, ap (λ text. field_text field ++ text) end.1 ∙ sym (append_assoc (field_text field) end.0 (soh ∷ [])))

decimal-35 : decimal 35 ≡ codes "35"
decimal-35 = decimal_step 35 (lit≤ tt) (lit< tt) ∙ ap (λ d. d ++ 53 ∷ []) (decimal_digit 3 (lit< tt))

kind_field-text : (kind : List ℕ) → field_text (kind_field kind) ≡ codes "35=" ++ (kind ++ soh ∷ [])
kind_field-text kind = ap (λ d. d ++ equals ∷ (kind ++ soh ∷ [])) decimal-35

body_is : (kind : List ℕ) (fields : List TagValue) → IsBody (fields_text (kind_field kind ∷ fields))
body_is kind [] = record { inner = kind; text = ap (λ text. text ++ []) (kind_field-text kind) ∙ append-nil (codes "35=" ++ (kind ++ soh ∷ [])) ∙ sym (append_assoc (codes "35=") kind (soh ∷ [])) }
body_is kind (next ∷ fields) =
    let end = fields_text-end next fields in
    record {
      inner = kind ++ soh ∷ end.0;
      text = ap (λ text. text ++ fields_text (next ∷ fields)) (kind_field-text kind) ∙ ap (λ text. (codes "35=" ++ (kind ++ soh ∷ [])) ++ text) end.1 ∙ simp append_assoc;
    }

length-body_of : (written : Written) → 0 < length written.kind → 5 ≤ length (body_of written)
length-body_of written some =
    omega (
      arith,
      some,
      ap length (kind_field-text written.kind),
      length-append (field_text (kind_field written.kind)) (fields_text written.fields),
      length-append written.kind (soh ∷ []),
    )

body_length_is : (written : Written) → IsWritten written → IsBodyLength (decimal (length (body_of written))) (length (body_of written))
body_length_is written is =
    let size = length (body_of written) in
    let high : size ≤ 65536 = is.short in
    let small : size < 2 ^ 64 = omega arith in
    record {
      number = and_from _ _ (le-leb 1 _ (omega (arith, decimal_nonempty size small))) (digits_decimal numeral size small);
      short = length-decimal-le 6 size (lit< tt) (omega arith) small;
      value = digits_value-decimal numeral size small;
      low = length-body_of written is.some;
      high = is.short;
    }

pub frame_of-valid : (written : Written) → IsWritten written → IsFrame (frame_of written)
frame_of-valid written is = record {
  digits = decimal (length (body_of written));
  body = body_of written;
  body_length = body_length_is written is;
  body_form = body_is written.kind written.fields;
  whole = refl;
}

-- the walk takes it, whatever follows
pub walk_of-frame_of : (written : Written) (more : List ℕ) → IsWritten written → walk_of (frame_of written ++ more) ≡ takes (frame_of written) (walk_of more)
walk_of-frame_of written more is =
    let frame = frame_of written in
    let n = length frame in
    walk_of-frame (frame ++ more) n (look_of-frame frame more (frame_of-valid written is))
    ∙ ap (λ f. takes f (walk_of (drop n (frame ++ more)))) (take_at frame more n refl)
    ∙ ap (λ rest. takes frame (walk_of rest)) (drop_at frame more n refl)

decimal-8 : decimal 8 ≡ codes "8"
decimal-8 = decimal_digit 8 (lit< tt)

decimal-9 : decimal 9 ≡ codes "9"
decimal-9 = decimal_digit 9 (lit< tt)

front_of-text : (digits body : List ℕ) → front_of digits body ≡ (codes "8" ++ equals ∷ (codes "FIX.4.4" ++ soh ∷ [])) ++ ((codes "9" ++ equals ∷ (digits ++ soh ∷ [])) ++ body)
front_of-text digits body =
    append_assoc (head ++ digits) (soh ∷ []) body
    ∙ append_assoc head digits (soh ∷ body)
    ∙ ap (λ rest. head ++ rest) (sym (append_assoc digits (soh ∷ []) body))

front_text-fields : (written : Written) → front_text written ≡ fields_text (begin_field ∷ length_field (length (body_of written)) ∷ kind_field written.kind ∷ written.fields)
front_text-fields written =
    let digits = decimal (length (body_of written)) in
    let body = body_of written in
    front_of-text digits body
    ∙ ap (λ d. (d ++ equals ∷ (codes "FIX.4.4" ++ soh ∷ [])) ++ ((codes "9" ++ equals ∷ (digits ++ soh ∷ [])) ++ body)) (sym decimal-8)
    ∙ ap (λ d. field_text begin_field ++ ((d ++ equals ∷ (digits ++ soh ∷ [])) ++ body)) (sym decimal-9)

decimal-without_soh : (n : ℕ) → n < 2 ^ 64 → has_soh (decimal n) ≡ false
decimal-without_soh n small = list_any_none is_soh (decimal n) (λ k d inside.
    let all = AllPass-from_list_all is_ascii_digit (decimal n) (digits_decimal numeral n small) in
    ne_eqb _ soh (λ same. false≢true (sym (ap is_ascii_digit same) ∙ all k d inside)))

pub fields_of-frame_of : (written : Written) → IsWritten written → fields_of (frame_of written) ≡ map Ok (frame_fields written)
fields_of-frame_of written is =
    let size = length (body_of written) in
    let high : size ≤ 65536 = is.short in
    let sized : Follows begin_field (length_field size) = record { low = lit≤ tt; high = lit< tt; paired = λ never. absurd (false≢true never); plain = λ _. decimal-without_soh size (omega arith) } in
    let kind_is : Follows (length_field size) (kind_field written.kind) = record { low = lit≤ tt; high = lit< tt; paired = λ never. absurd (false≢true never); plain = λ _. is.plain } in
    ap (λ front. fields_of (front ++ trailer_of (front_text written))) (front_text-fields written)
    ∙ fields_of-written begin_field (length_field size ∷ kind_field written.kind ∷ written.fields) (front_text written) (lit≤ tt) (lit< tt) refl (sized, (kind_is, is.follow))

-- ---- one more field

pub last_of-push : (before : TagValue) (fields : List TagValue) (field : TagValue) → last_of before (fields ++ field ∷ []) ≡ field
last_of-push before [] field = refl
last_of-push before (next ∷ fields) field = last_of-push next fields field

EachFollows-push : (before : TagValue) (fields : List TagValue) (field : TagValue) → EachFollows before fields → Follows (last_of before fields) field → EachFollows before (fields ++ field ∷ [])
EachFollows-push before [] field is next = (next, tt)
EachFollows-push before (first ∷ fields) field is next = (is.0, EachFollows-push first fields field is.1 next)

pub body_of-push : (written : Written) (field : TagValue) → body_of (with_field written field) ≡ body_of written ++ field_text field
body_of-push written field =
    ap (λ text. field_text (kind_field written.kind) ++ text) (flat_map-append field_text written.fields (field ∷ []))
    ∙ simp append_assoc

-- a body is the text of the message that it is read as
pub IsBodyText-of : (written : Written) (body : List ℕ) (last : ℕ) → IsWritten written → body ≡ body_of written → last ≡ (last_field written).tag → IsBodyText body last × (written_of body ≡ written)
IsBodyText-of written body last is text last_is =
    let read : written_of body ≡ written = ap written_of text ∙ written_of-body written is in (
      record {
        written = subst IsWritten (sym read) is;
        text = text ∙ ap body_of (sym read);
        last_tag = last_is ∙ ap (λ w. (last_field w).tag) (sym read);
      },
      read,
    )

pub IsWritten-push : (written : Written) (field : TagValue) → IsWritten written → MayFollow (last_field written) field → (is_data_tag field.tag ≡ false → has_soh field.value ≡ false) → length (body_of written ++ field_text field) ≤ SIZE_MAX → IsWritten (with_field written field)
IsWritten-push written field is may plain short = record {
  some = is.some;
  plain = is.plain;
  follow = EachFollows-push (kind_field written.kind) written.fields field is.follow (record { low = may.low; high = may.high; paired = may.paired; plain = plain });
  short = subst (λ text. length text ≤ SIZE_MAX) (sym (body_of-push written field)) short;
}

pub IsWritten-begun : (kind : List ℕ) → 0 < length kind → has_soh kind ≡ false → length (field_text (kind_field kind)) ≤ SIZE_MAX → IsWritten (begun kind)
IsWritten-begun kind some plain short = record {
  some = some;
  plain = plain;
  follow = tt;
  short = subst (λ text. length text ≤ SIZE_MAX) (sym (append-nil (field_text (kind_field kind)))) short;
}

-- what isn't refused has room, and an SOH in data alone
refusal_of-none : (size : ℕ) (field : TagValue) → refusal_of size field ≡ None → (size + length (field_text field) ≤ SIZE_MAX) × (is_data_tag field.tag ≡ false → has_soh field.value ≡ false)
refusal_of-none size field none =
    elim (cases_Bool (ltb SIZE_MAX (size + length (field_text field)))) [
      | inl long ↦ cc
      | inr fits ↦ (
        ltb-false SIZE_MAX (size + length (field_text field)) fits,
        λ plain. elim (cases_Bool (has_soh field.value)) [
          | inl soh_in ↦ let refused : (has_soh field.value && not (is_data_tag field.tag)) ≡ true = and_from _ _ soh_in (not_from_false _ plain) in cc
          | inr without ↦ without
        ],
      )
    ]

-- ---- the steps of a message in the making

pub begins : (kind body : List ℕ) → 0 < length kind → refusal_of 0 (kind_field kind) ≡ None → body ≡ field_text (kind_field kind) → IsBodyText body 35 × (written_of body ≡ begun kind)
begins kind body some none text =
    let fits = refusal_of-none 0 (kind_field kind) none in
    IsBodyText-of (begun kind) body 35
    (IsWritten-begun kind some (fits.1 refl) (omega (arith, fits.0)))
    (text ∙ sym (append-nil (field_text (kind_field kind)))) refl

pub grows : (written : Written) (field : TagValue) (old new : List ℕ) (last size : ℕ) → size ≡ length old → IsBodyText old last → written_of old ≡ written → MayFollow (last_field written) field → refusal_of size field ≡ None → new ≡ old ++ field_text field → IsBodyText new field.tag × (written_of new ≡ with_field written field)
grows written field old new last size size_is is view may none text =
    let body : old ≡ body_of written = is.text ∙ ap body_of view in
    let written_is : IsWritten written = subst IsWritten view is.written in
    let fits = refusal_of-none size field none in
    IsBodyText-of (with_field written field) new field.tag
    (IsWritten-push written field written_is may fits.1 (subst (λ b. length (b ++ field_text field) ≤ SIZE_MAX) body (omega (arith, fits.0, size_is, length-append old (field_text field)))))
    (text ∙ ap (λ b. b ++ field_text field) body ∙ sym (body_of-push written field))
    (sym (ap (λ f. f.tag) (last_of-push (kind_field written.kind) written.fields field)))

pub IsWritten-view : (written : Written) (body : List ℕ) (last : ℕ) → IsBodyText body last → written_of body ≡ written → IsWritten written
IsWritten-view written body last is view = subst IsWritten view is.written
