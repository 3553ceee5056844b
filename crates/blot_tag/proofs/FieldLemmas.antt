-- The items of a text, one at a time.
use Rattle.std.proofs.Common.{◌≡◌, ℕ, zero, suc, ◌+◌, ◌<◌, ◌≤◌, List, [], ◌∷◌, length, take, drop, get_or, ◌&&◌, ltb, Option, Some, None, Result, Ok, Err, inl, inr, refl, sym, ap, ◌∙◌, arith, length-drop, ok_or}
use Rattle.std.specs.List.{position_or_len, before_first, after_first}
use Rattle.std.proofs.lemmas.Bool.{cases_Bool}
use Rattle.blot_tag.specs.Bytes.{is_soh, is_equals, is_number, number_of}
use Rattle.blot_tag.specs.Fields.{TagValue, no_tag, wrong_length, length_before, first_tag, data_value, value_of, first_field, and_then_others, first_items, items_behind}
use Rattle.blot_tag.specs.Results.{◌>>=◌}
use Rattle.blot_tag.specs.declared.field.SplitFault.{SplitFault}

-- what stands after a data field's value
length-data_value : (digits rest : List ℕ) (cut : List ℕ × List ℕ) → data_value digits rest ≡ Some cut → length cut.1 ≤ length rest
unfolding data_value
length-data_value digits rest cut e =
    let size = number_of digits in
    let test = is_number digits && ltb (size + 7) (length rest) && is_soh (get_or rest size 0) in
    elim (cases_Bool test) [
      | inl holds ↦ let same : (take size rest, drop (size + 1) rest) ≡ cut = cc in omega (arith, ap (λ x. length x.1) same, length-drop (size + 1) rest)
      | inr fails ↦ cc
    ]

length-value_of : (size : Option (List ℕ)) (tag : ℕ) (rest : List ℕ) (cut : List ℕ × List ℕ) → value_of size tag rest ≡ Ok cut → length cut.1 ≤ length rest
length-value_of None tag rest cut e =
    let same : (before_first is_soh rest, after_first is_soh rest) ≡ cut = cc in
    omega (arith, ap (λ x. length x.1) same, length-drop (position_or_len is_soh rest + 1) rest)
length-value_of (Some digits) tag rest cut e = by_value (data_value digits rest) (λ got is. length-data_value digits rest got is) e
  where
    by_value : (value : Option (List ℕ × List ℕ)) → ((got : List ℕ × List ℕ) → value ≡ Some got → length got.1 ≤ length rest) → ok_or value (wrong_length tag) ≡ Ok cut → length cut.1 ≤ length rest
    by_value None short is = cc
    by_value (Some got) short is = let same : got ≡ cut = cc in omega (arith, short got refl, ap (λ x. length x.1) same)

-- the text after a field is shorter
pub length-first_field : (before : Option TagValue) (text : List ℕ) (split : TagValue × List ℕ) → 0 < length text → first_field before text ≡ Ok split → length split.1 < length text
unfolding first_field
length-first_field before text split some e = by_tag (first_tag text) e
  where
    rest : List ℕ
    rest = after_first is_equals text

    by_value : (tag : ℕ) (value : Result (List ℕ × List ℕ) SplitFault) → ((cut : List ℕ × List ℕ) → value ≡ Ok cut → length cut.1 ≤ length rest) → (do
      cut ← value
      Ok (record { tag = tag; value = cut.0 }, cut.1)) ≡ Ok split → length split.1 < length text
    by_value tag (Err fault) short is = cc
    by_value tag (Ok cut) short is =
        let same : (record { tag = tag; value = cut.0 }, cut.1) ≡ split = cc in
        omega (arith, ap (λ x. length x.1) same, short cut refl, length-drop (position_or_len is_equals text + 1) text)

    by_tag : (tag : Option ℕ) → (do
      tag ← ok_or tag no_tag
      cut ← value_of (length_before before tag) tag rest
      Ok (record { tag = tag; value = cut.0 }, cut.1)) ≡ Ok split → length split.1 < length text
    by_tag None is = cc
    by_tag (Some tag) is =
        by_value tag (value_of (length_before before tag) tag rest) (length-value_of (length_before before tag) tag rest) is

pub items_behind-nil : (before : Option TagValue) → items_behind before [] ≡ []
unfolding items_behind first_items
items_behind-nil before = refl

first_items-nil : (n : ℕ) (before : Option TagValue) → first_items n before [] ≡ []
unfolding first_items
first_items-nil zero before = refl
first_items-nil (suc n) before = refl

others_same : (n m : ℕ) (split : Result (TagValue × List ℕ) SplitFault) → ((cut : TagValue × List ℕ) → split ≡ Ok cut → first_items n (Some cut.0) cut.1 ≡ first_items m (Some cut.0) cut.1) → and_then_others (first_items n) split ≡ and_then_others (first_items m) split
others_same n m (Ok cut) same = ap (λ items. Ok cut.0 ∷ items) (same cut refl)
others_same n m (Err fault) same = refl

-- a text has no more items than bytes
first_items-enough : (n m : ℕ) (before : Option TagValue) (text : List ℕ) → length text ≤ n → length text ≤ m → first_items n before text ≡ first_items m before text
unfolding first_items
first_items-enough n m before [] a b = first_items-nil n before ∙ sym (first_items-nil m before)
first_items-enough zero m before (byte ∷ bytes) a b = absurd (omega arith)
first_items-enough (suc n) zero before (byte ∷ bytes) a b = absurd (omega arith)
first_items-enough (suc n) (suc m) before (byte ∷ bytes) a b =
    others_same n m (first_field before (byte ∷ bytes)) (λ cut e.
    let shorter = length-first_field before (byte ∷ bytes) cut (omega arith) e in
    first_items-enough n m (Some cut.0) cut.1 (omega arith) (omega arith))

others_behind : (n : ℕ) (split : Result (TagValue × List ℕ) SplitFault) → ((cut : TagValue × List ℕ) → split ≡ Ok cut → first_items n (Some cut.0) cut.1 ≡ items_behind (Some cut.0) cut.1) → and_then_others (first_items n) split ≡ and_then_others items_behind split
others_behind n (Ok cut) same = ap (λ items. Ok cut.0 ∷ items) (same cut refl)
others_behind n (Err fault) same = refl

-- the items of a text are its first field and those after it, or its fault
pub items_behind-step : (before : Option TagValue) (text : List ℕ) → 0 < length text → items_behind before text ≡ and_then_others items_behind (first_field before text)
unfolding items_behind first_items
items_behind-step before [] some = absurd (omega arith)
items_behind-step before (byte ∷ bytes) some =
    others_behind (length bytes) (first_field before (byte ∷ bytes)) (λ cut e.
    let shorter = length-first_field before (byte ∷ bytes) cut (omega arith) e in
    first_items-enough (length bytes) (length cut.1) (Some cut.0) cut.1 (omega arith) (omega arith))

-- the same, where the split is known
pub items_behind-of : (before : Option TagValue) (text : List ℕ) (split : Result (TagValue × List ℕ) SplitFault) → 0 < length text → split ≡ first_field before text → items_behind before text ≡ and_then_others items_behind split
items_behind-of before text split some is = items_behind-step before text some ∙ ap (and_then_others items_behind) (sym is)

length-and_then_others : (n : ℕ) (split : Result (TagValue × List ℕ) SplitFault) → ((before : Option TagValue) (text : List ℕ) → length (first_items n before text) ≤ n) → length (and_then_others (first_items n) split) ≤ suc n
length-and_then_others n (Ok cut) few = let later = few (Some cut.0) cut.1 in omega arith
length-and_then_others n (Err fault) few = omega arith

length-first_items : (n : ℕ) (before : Option TagValue) (text : List ℕ) → length (first_items n before text) ≤ n
unfolding first_items
length-first_items zero before text = omega arith
length-first_items (suc n) before [] = omega arith
length-first_items (suc n) before (byte ∷ bytes) = length-and_then_others n (first_field before (byte ∷ bytes)) (length-first_items n)

-- a text has no more items than bytes
pub length-items_behind : (before : Option TagValue) (text : List ℕ) → length (items_behind before text) ≤ length text
unfolding items_behind
length-items_behind before text = length-first_items (length text) before text
