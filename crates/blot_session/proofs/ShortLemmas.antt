-- Short values: fields of them aren't refused, and are read again.
use Rattle.std.proofs.Common.{◌≡◌, ℕ, ◌+◌, ◌%◌, ◌^◌, ◌<◌, ◌≤◌, true, false, ◌&&◌, not, leb, List, [], ◌∷◌, ◌++◌, length, None, ap, ◌∙◌, inl, inr, arith, length-append, lit<, nat_lt, ℤ, decimal, le-leb, leb-true, ltb-true, ne_eqb}
use Rattle.std.specs.Char.{is_ascii_digit}
use Rattle.std.specs.List.{list_all}
use Rattle.std.proofs.lemmas.Bool.{cases_Bool, cond-false, and_from, and_parts}
use Rattle.std.proofs.lemmas.Fmt.{digits_decimal, digits_value-decimal, length-decimal-le, decimal_nonempty}
use Rattle.std.proofs.lemmas.List.Folds.{list_any_none}
use Rattle.std.proofs.lemmas.List.Sums.{AllPass-from_list_all}
use Rattle.blot_time.specs.Clock.{clock_text}
use Rattle.blot_time.specs.Day.{day_text}
use Rattle.blot_time.specs.Moment.{moment_text}
use Rattle.blot_tag.specs.Bytes.{is_number, is_soh, number_of}
use Rattle.blot_tag.specs.FieldText.{field_text}
use Rattle.blot_tag.specs.Fields.{TagValue}
use Rattle.blot_tag.specs.Writing.{is_data_tag, refusal_of}
use Rattle.blot_tag.proofs.FieldTextLemmas.{numeral}
use Rattle.blot_types.specs.Text.{is_text, printable}
use Rattle.blot_session.specs.Outbound.{IsShort}

printable-soh : (byte : ℕ) → printable byte ≡ true → is_soh byte ≡ false
printable-soh byte is =
    let low = leb-true 0x20 byte (and_parts (leb 0x20 byte) (leb byte 0x7E) is).0 in
    ne_eqb byte 1 (λ same. omega (arith, same))

pub short_text : (value : List ℕ) → is_text value ≡ true → IsShort value
short_text value is =
    let outer = and_parts (leb 1 (length value) && leb (length value) 64) (list_all printable value) is in
    let inner = and_parts (leb 1 (length value)) (leb (length value) 64) outer.0 in
    record {
      some = omega (arith, leb-true 1 _ inner.0);
      few = leb-true _ 64 inner.1;
      plain = list_any_none is_soh value (λ k d inside. printable-soh _ (AllPass-from_list_all printable value outer.1 k d inside));
    }

digit-soh : (byte : ℕ) → is_ascii_digit byte ≡ true → is_soh byte ≡ false
digit-soh byte is =
    let low = leb-true 48 byte (and_parts (leb 48 byte) (leb byte 57) is).0 in
    ne_eqb byte 1 (λ same. omega (arith, same))

pub short_decimal : (n : ℕ) → n < 2 ^ 64 → IsShort (decimal n)
short_decimal n small =
    let digits = AllPass-from_list_all is_ascii_digit (decimal n) (digits_decimal numeral n small) in
    record {
      some = decimal_nonempty n small;
      few = omega (arith, length-decimal-le 20 n (lit< tt) (omega (arith, small)) small);
      plain = list_any_none is_soh (decimal n) (λ k d inside. digit-soh _ (digits k d inside));
    }

pub is_number-decimal : (n : ℕ) → n < 2 ^ 64 → is_number (decimal n) ≡ true
is_number-decimal n small = and_from _ _ (le-leb 1 _ (omega (arith, decimal_nonempty n small))) (digits_decimal numeral n small)

pub number_of-decimal : (n : ℕ) → n < 2 ^ 64 → number_of (decimal n) ≡ n
number_of-decimal n small = digits_value-decimal numeral n small

last_digit-soh : (n : ℕ) → is_soh (48 + n % 10) ≡ false
last_digit-soh n = ne_eqb (48 + n % 10) 1 (λ same. omega (arith, same))

pub short_day : (day : ℤ) → IsShort (day_text day)
unfolding day_text
short_day day = record { some = omega arith; few = omega arith; plain = simp last_digit-soh }

pub short_moment : (moment : ℤ) → IsShort (moment_text moment)
unfolding moment_text day_text clock_text
short_moment moment = record { some = omega arith; few = omega arith; plain = simp last_digit-soh }

-- ---- fields

pub length-field : (field : TagValue) → field.tag < 1000 → IsShort field.value → length (field_text field) ≤ 80
length-field field low short =
    omega (
      arith,
      short.few,
      length-append (decimal field.tag) (61 ∷ (field.value ++ 1 ∷ [])),
      length-append field.value (1 ∷ []),
      length-decimal-le 3 field.tag (lit< tt) low (omega (arith, low)),
    )

pub refusal-short : (size : ℕ) (field : TagValue) → size + 80 ≤ 65_536 → field.tag < 1000 → IsShort field.value → refusal_of size field ≡ None
refusal-short size field room low short =
    let small = length-field field low short in
    let within : nat_lt 65_536 (size + length (field_text field)) ≡ false =
    elim (cases_Bool (nat_lt 65_536 (size + length (field_text field)))) [
      | inl y ↦ absurd (omega (arith, small, ltb-true 65_536 _ y))
      | inr n ↦ n
    ] in
    cond-false _ _ _ within ∙ cond-false _ _ _ (ap (λ soh. soh && not (is_data_tag field.tag)) short.plain)
