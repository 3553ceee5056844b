-- What is printed is read again as the same number, and no text of that number is shorter.
use Rattle.std.proofs.Common.{◌≡◌, ◌≢◌, ℕ, zero, suc, ◌+◌, ◌-◌, ◌*◌, ◌/◌, ◌%◌, ◌^◌, ◌<◌, ◌≤◌, ◌==◌, if◌then◌else◌, ℤ, pos, negsuc, unsigned_abs, Bool, true, false, List, [], ◌∷◌, ◌++◌, length, get_or, drop, Ok, Err, refl, sym, ap, ◌∙◌, subst, arith, inl, inr, fold, length-append, nat_lt, decimal, ne_eqb, lt-ltb, le-leb, append-nil, length-take, length-drop, div-add-mod'}
use Rattle.std.specs.Char.{is_ascii_digit}
use Rattle.std.specs.List.{list_any, position_or_len}
use Rattle.std.proofs.lemmas.Bool.{cases_eq, and_from, or_from, and_parts}
use Rattle.std.proofs.lemmas.Grind.{fold-append}
use Rattle.std.proofs.lemmas.List.{drop_all}
use Rattle.std.proofs.lemmas.Fmt.{decimal_is_IsNumeral_wide, length-decimal-le_wide}
use Rattle.std.proofs.lemmas.Nat.{div_below, mod_below, div-mul-add, mod-mul-add}
use Rattle.blot_decimal.specs.declared.fault.DecimalFault.TheVariants.{Format, TooFine}
use Rattle.blot_decimal.specs.Text.{is_negative, unsigned_of, is_point, with_digit, number_of, are_digits, are_zeros, are_parts, whole_of, fraction_of, is_size}
use Rattle.blot_decimal.specs.Meaning.{signed, IsValue, kept_of, size_of, with_sign, exact_of, within, qty_units, price_units, qty_of, price_of}
use Rattle.blot_decimal.specs.Printed.{fraction_digits, behind_point, size_text, printed, last_of, IsShortest}
use Rattle.blot_decimal.proofs.SizeLemmas.{size_of-units, are_digits-from_parts}
use Rattle.blot_decimal.proofs.ValueLemmas.{own, ten_more, ten_pos, fold_digits, number_of_below}
use Rattle.blot_decimal.proofs.ZeroLemmas.{without_point}
use Rattle.blot_decimal.proofs.MeaningLemmas.{reads_as, no_decimal, no_units, some_units, IsValue-unique, IsValue-kept, past-from_value, unsigned_abs-signed}
use Rattle.blot_decimal.proofs.PrintLemmas.{fraction_digits-zero, fraction_digits-more}

-- ---- the digits after the point

-- a rest of 0, or a first digit and what is left
fraction_digits-nil : (places : ℕ) → fraction_digits places 0 ≡ []
fraction_digits-nil places = fraction_digits-zero places 0 refl

fraction_digits-suc : (places rest : ℕ) → 0 < rest →
    fraction_digits (suc places) rest ≡ (48 + rest / 10 ^ places) ∷ fraction_digits places (rest % 10 ^ places)
fraction_digits-suc places rest more =
    fraction_digits-more (suc places) rest (omega arith) more
    ∙ (let less : suc places - 1 ≡ places = omega arith in ap (λ k. (48 + rest / 10 ^ k) ∷ fraction_digits k (rest % 10 ^ k)) less)

-- a property of the digits of each rest below ten to its places
digits_by_steps : (P : ℕ → ℕ → List ℕ → Type 0) → ((places : ℕ) → P places 0 []) →
    ((places rest digit left : ℕ) → digit < 10 → left < 10 ^ places → 0 < rest → rest ≡ digit * 10 ^ places + left →
    P places left (fraction_digits places left) → P (suc places) rest ((48 + digit) ∷ fraction_digits places left)) →
    (places rest : ℕ) → rest < 10 ^ places → P places rest (fraction_digits places rest)
digits_by_steps P none more zero rest below =
    let is_zero : rest ≡ 0 = omega (arith, below) in
    subst (λ r. P 0 r (fraction_digits 0 r)) (sym is_zero) (subst (P 0 0) (sym (fraction_digits-nil 0)) (none 0))
digits_by_steps P none more (suc places) rest below = elim (cases_eq rest 0) [
  | inl is_zero ↦ subst (λ r. P (suc places) r (fraction_digits (suc places) r)) (sym is_zero) (subst (P (suc places) 0) (sym (fraction_digits-nil (suc places))) (none (suc places)))
  | inr not_zero ↦
      let above : 0 < rest = omega (arith, not_zero) in
      let left : rest % 10 ^ places < 10 ^ places = mod_below rest (10 ^ places) (ten_pos places) in
      let power = ten_more places in
      let digit : rest / 10 ^ places < 10 = div_below rest (10 ^ places) 10 (ten_pos places) (omega (arith, power, below)) in
      subst (P (suc places) rest) (sym (fraction_digits-suc places rest above))
      (more places rest (rest / 10 ^ places) (rest % 10 ^ places) digit left above (sym (div-add-mod' rest (10 ^ places))) (digits_by_steps P none more places (rest % 10 ^ places) left))
]

-- a digit's byte
digit_byte : (digit : ℕ) → digit < 10 → is_ascii_digit (48 + digit) ≡ true
digit_byte digit below = and_from _ _ (le-leb 48 (48 + digit) (omega arith)) (le-leb (48 + digit) 57 (omega arith))

are_digits-fraction : (places rest : ℕ) → rest < 10 ^ places → are_digits (fraction_digits places rest) ≡ true
are_digits-fraction = digits_by_steps (λ places rest digits. are_digits digits ≡ true) (λ places. refl)
    (λ places rest digit left below left_below above is digits. and_from _ _ (digit_byte digit below) digits)

-- they are no more than the places
length-fraction : (places rest : ℕ) → rest < 10 ^ places → length (fraction_digits places rest) ≤ places
length-fraction = digits_by_steps (λ places rest digits. length digits ≤ places) (λ places. omega arith)
    (λ places rest digit left below left_below above is digits. omega (arith, digits))

-- after a number they write the rest
kept-fraction : (places rest : ℕ) → rest < 10 ^ places →
    (number : ℕ) → fold with_digit number (kept_of places (fraction_digits places rest)) ≡ number * 10 ^ places + rest
kept-fraction = digits_by_steps (λ places rest digits. (number : ℕ) → fold with_digit number (kept_of places digits) ≡ number * 10 ^ places + rest)
    kept_nothing
    (λ places rest digit left below left_below above is digits number.
    let step = digits (with_digit number (48 + digit)) in
    let plain : with_digit number (48 + digit) ≡ number * 10 + digit = omega arith in
    kept_step number digit (10 ^ places) (10 ^ suc places) left rest (with_digit number (48 + digit)) (fold with_digit (with_digit number (48 + digit)) (kept_of places (fraction_digits places left)))
    (ten_more places) is plain step)
  where
    kept_step : (number digit power power' left rest next whole : ℕ) → power' ≡ power * 10 → rest ≡ digit * power + left → next ≡ number * 10 + digit →
        whole ≡ next * power + left → whole ≡ number * power' + rest
    kept_step number digit power power' left rest next whole more is plain step =
        rw (more, is) (let wide : whole ≡ (number * 10 + digit) * power + left = rw (← plain) step in omega (arith, wide))

    kept_nothing : (places number : ℕ) → fold with_digit number (kept_of places []) ≡ number * 10 ^ places + 0
    kept_nothing zero number = omega arith
    kept_nothing (suc places) number =
        let step = kept_nothing places (number * 10 + (48 - 48)) in
        let goal : fold with_digit (number * 10 + (48 - 48)) (kept_of places []) ≡ number * 10 ^ suc places + 0 = rw (ten_more places) (omega (arith, step)) in goal

-- the last of them isn't 0, and there are none only of 0
last_step : (first : ℕ) (digits : List ℕ) → (digits ≡ [] → first ≢ 48) → (digits ≢ [] → last_of digits ≢ 48) → last_of (first ∷ digits) ≢ 48
last_step first [] alone rest = alone refl
last_step first (digit ∷ digits) alone rest =
    let behind : suc (suc (length digits)) - 1 ≡ suc (length digits) = omega arith in
    let before : suc (length digits) - 1 ≡ length digits = omega arith in
    rw behind (let last : get_or (digit ∷ digits) (suc (length digits) - 1) 0 ≢ 48 = rest (λ none. cc) in rw before at last)

fraction_ends : (places rest : ℕ) → rest < 10 ^ places →
    (fraction_digits places rest ≡ [] → rest ≡ 0) × (fraction_digits places rest ≢ [] → last_of (fraction_digits places rest) ≢ 48)
fraction_ends = digits_by_steps (λ places rest digits. (digits ≡ [] → rest ≡ 0) × (digits ≢ [] → last_of digits ≢ 48))
    (λ places. ((λ _. refl), (λ some. absurd (some refl))))
    (λ places rest digit left below left_below above is digits.
    ((λ none. cc), (λ _. last_step (48 + digit) (fraction_digits places left) (λ none same. alone digit (10 ^ places) left rest above is (digits.0 none) same) digits.1)))
  where
    alone : (digit power left rest : ℕ) → 0 < rest → rest ≡ digit * power + left → left ≡ 0 → 48 + digit ≡ 48 → ⊥
    alone zero power left rest above is none same = omega arith
    alone (suc digit) power left rest above is none same = omega arith

-- kept digits are as many as the places, and digits
length-kept : (places : ℕ) (fraction : List ℕ) → length (kept_of places fraction) ≡ places
length-kept zero fraction = refl
length-kept (suc places) [] = ap suc (length-kept places [])
length-kept (suc places) (digit ∷ fraction) = ap suc (length-kept places fraction)

are_digits-kept : (places : ℕ) (fraction : List ℕ) → are_digits fraction ≡ true → are_digits (kept_of places fraction) ≡ true
are_digits-kept zero fraction form = refl
are_digits-kept (suc places) [] form = are_digits-kept places [] refl
are_digits-kept (suc places) (digit ∷ fraction) form =
    let parts = and_parts _ _ form in and_from _ _ parts.0 (are_digits-kept places fraction parts.1)

kept_below : (places : ℕ) (fraction : List ℕ) → are_digits fraction ≡ true → number_of (kept_of places fraction) < 10 ^ places
kept_below places fraction form =
    subst (λ k. number_of (kept_of places fraction) < 10 ^ k) (length-kept places fraction) (number_of_below (kept_of places fraction) (are_digits-kept places fraction form))

-- the number of digits before kept ones
fold_kept : (number places : ℕ) (fraction : List ℕ) → fold with_digit number (kept_of places fraction) ≡ number * 10 ^ places + number_of (kept_of places fraction)
fold_kept number places fraction =
    fold_digits number (kept_of places fraction) ∙ ap (λ k. number * 10 ^ k + number_of (kept_of places fraction)) (length-kept places fraction)

number_of-kept_nothing : (places : ℕ) → number_of (kept_of places []) ≡ 0
number_of-kept_nothing zero = refl
number_of-kept_nothing (suc places) = number_of-kept_nothing places

-- no fraction of that rest has fewer digits
fraction-least : (places : ℕ) (fraction : List ℕ) → are_digits fraction ≡ true →
    length (fraction_digits places (number_of (kept_of places fraction))) ≤ length fraction
fraction-least zero fraction form = rw (fraction_digits-nil 0) (omega arith)
fraction-least (suc places) [] form = rw (number_of-kept_nothing places, fraction_digits-nil (suc places)) (omega arith)
fraction-least (suc places) (digit ∷ fraction) form = elim (cases_eq number 0) [
  | inl is_zero ↦ subst (λ n. length (fraction_digits (suc places) n) ≤ suc (length fraction)) (sym is_zero) (rw (fraction_digits-nil (suc places)) (omega arith))
  | inr not_zero ↦
      let above : 0 < number = omega (arith, not_zero) in
      let rest = fraction-least places fraction digits in
      let left : number % 10 ^ places ≡ number_of (kept_of places fraction) =
      ap (λ n. n % 10 ^ places) (fold_kept (with_digit 0 digit) places fraction) ∙ mod-mul-add (with_digit 0 digit) (10 ^ places) (number_of (kept_of places fraction)) (kept_below places fraction digits) in
      subst (λ ds. length ds ≤ suc (length fraction)) (sym (fraction_digits-suc places number above))
      (subst (λ n. suc (length (fraction_digits places n)) ≤ suc (length fraction)) (sym left) (omega (arith, rest)))
]
  where
    number : ℕ
    number = number_of (kept_of (suc places) (digit ∷ fraction))

    digits : are_digits fraction ≡ true
    digits = (and_parts (is_ascii_digit digit) (are_digits fraction) form).1

-- ---- the whole text

-- the digits of a whole number
decimal_form : (number : ℕ) → number < 10 ^ 64 → (are_digits (decimal number) ≡ true) × (number_of (decimal number) ≡ number) × (0 < length (decimal number))
decimal_form number small =
    let numeral = decimal_is_IsNumeral_wide number small in
    (own.from (decimal number) numeral.0.1, own.same (decimal number) numeral.0.1 ∙ numeral.1, numeral.0.0)

-- no digit is a point or a minus sign
digit_is_no_point : (byte : ℕ) → is_ascii_digit byte ≡ true → (byte == 46) ≡ false
digit_is_no_point byte form = ne_eqb byte 46 (λ same. let form' : is_ascii_digit 46 ≡ true = rw same at form in cc)

digit_is_no_minus : (byte : ℕ) → is_ascii_digit byte ≡ true → (byte == 45) ≡ false
digit_is_no_minus byte form = ne_eqb byte 45 (λ same. let form' : is_ascii_digit 45 ≡ true = rw same at form in cc)

no_point_in_digits : (digits : List ℕ) → are_digits digits ≡ true → list_any is_point digits ≡ false
no_point_in_digits [] form = refl
no_point_in_digits (digit ∷ digits) form =
    let parts = and_parts (is_ascii_digit digit) (are_digits digits) form in
    or_from (is_point digit) (list_any is_point digits) (digit_is_no_point digit parts.0) (no_point_in_digits digits parts.1)

-- the parts of digits with decimals after them
parts_of_printed : (whole fraction : List ℕ) → are_digits whole ≡ true →
    (whole_of (whole ++ behind_point fraction) ≡ whole) × (fraction_of (whole ++ behind_point fraction) ≡ fraction)
parts_of_printed whole [] form =
    let parts = without_point whole [] (no_point_in_digits whole form) in
    (ap whole_of (append-nil whole) ∙ parts.2, ap fraction_of (append-nil whole) ∙ parts.3)
parts_of_printed whole (digit ∷ fraction) form =
    let parts = without_point whole (digit ∷ fraction) (no_point_in_digits whole form) in (parts.0, parts.1)

-- the parts of a printed size, and that it is read as that size
record PrintsSize (places size : ℕ) : Type 0 where
  whole : whole_of (size_text places size) ≡ decimal (size / 10 ^ places)
  fraction : fraction_of (size_text places size) ≡ fraction_digits places (size % 10 ^ places)
  reads : size_of places (size_text places size) ≡ Ok size

drop_short : (places : ℕ) (digits : List ℕ) → length digits ≤ places → are_zeros (drop places digits) ≡ true
drop_short places digits short = ap are_zeros (drop_all places digits short)

are_parts_of : (whole fraction : List ℕ) → are_digits whole ≡ true → are_digits fraction ≡ true → 0 < length whole → are_parts whole fraction ≡ true
unfolding are_parts
are_parts_of whole fraction form form' some = and_from _ _ (and_from _ _ form form') (lt-ltb 0 (length whole + length fraction) (omega arith))

quotient_small : (size places : ℕ) → size < 10 ^ 64 → size / 10 ^ places < 10 ^ 64
quotient_small size places small =
    let parts = div-add-mod' size (10 ^ places) in
    quotient_le (size / 10 ^ places) (10 ^ places) (size % 10 ^ places) size (ten_pos places) parts small
  where
    quotient_le : (quotient power rest size : ℕ) → 0 < power → quotient * power + rest ≡ size → size < 10 ^ 64 → quotient < 10 ^ 64
    quotient_le quotient zero rest size above parts small = absurd (omega arith)
    quotient_le quotient (suc power) rest size above parts small = omega (arith, parts, small)

prints_size : (places size : ℕ) → size < 10 ^ 64 → PrintsSize places size
prints_size places size small =
    let rest : size % 10 ^ places < 10 ^ places = mod_below size (10 ^ places) (ten_pos places) in
    let whole = decimal_form (size / 10 ^ places) (quotient_small size places small) in
    let digits = are_digits-fraction places (size % 10 ^ places) rest in
    let parts = parts_of_printed (decimal (size / 10 ^ places)) (fraction_digits places (size % 10 ^ places)) whole.0 in
    let form : is_size (size_text places size) ≡ true =
    ap (λ w. are_parts w (fraction_of (size_text places size))) parts.0 ∙ ap (are_parts (decimal (size / 10 ^ places))) parts.1
    ∙ are_parts_of (decimal (size / 10 ^ places)) (fraction_digits places (size % 10 ^ places)) whole.0 digits whole.2 in
    let past : are_zeros (drop places (fraction_of (size_text places size))) ≡ true =
    ap (λ f. are_zeros (drop places f)) parts.1 ∙ drop_short places (fraction_digits places (size % 10 ^ places)) (length-fraction places (size % 10 ^ places) rest) in
    let units : number_of (whole_of (size_text places size) ++ kept_of places (fraction_of (size_text places size))) ≡ size =
    ap (λ w. number_of (w ++ kept_of places (fraction_of (size_text places size)))) parts.0
    ∙ ap (λ f. number_of (decimal (size / 10 ^ places) ++ kept_of places f)) parts.1
    ∙ fold-append with_digit 0 (decimal (size / 10 ^ places)) (kept_of places (fraction_digits places (size % 10 ^ places)))
    ∙ kept-fraction places (size % 10 ^ places) rest (number_of (decimal (size / 10 ^ places)))
    ∙ ap (λ n. n * 10 ^ places + size % 10 ^ places) whole.1 ∙ div-add-mod' size (10 ^ places) in
    record { whole = parts.0; fraction = parts.1; reads = size_of-units places (size_text places size) form past ∙ ap Ok units }

-- the first byte of a printed size is a digit
unsigned_digits : (digits tail : List ℕ) → are_digits digits ≡ true → 0 < length digits →
    (is_negative (digits ++ tail) ≡ false) × (unsigned_of (digits ++ tail) ≡ digits ++ tail)
unsigned_digits [] tail form some = absurd (omega arith)
unsigned_digits (digit ∷ digits) tail form some =
    let minus = digit_is_no_minus digit (and_parts (is_ascii_digit digit) (are_digits digits) form).0 in (minus, rw minus refl)

-- the sign and the size of a printed number
unsigned-printed : (places : ℕ) (units : ℤ) → unsigned_abs units < 10 ^ 64 →
    (unsigned_of (printed places units) ≡ size_text places (unsigned_abs units)) × (exact_of places (printed places units) ≡ Ok units)
unfolding printed
unsigned-printed places (pos units) small =
    let whole = decimal_form (units / 10 ^ places) (quotient_small units places small) in
    let sign = unsigned_digits (decimal (units / 10 ^ places)) (behind_point (fraction_digits places (units % 10 ^ places))) whole.0 whole.2 in (
      sign.1,
      ap (λ minus. with_sign minus (size_of places (unsigned_of (size_text places units)))) sign.0
          ∙ ap (λ size. with_sign false (size_of places size)) sign.1 ∙ ap (with_sign false) (prints_size places units small).reads,
    )
unsigned-printed places (negsuc units) small = (refl, ap (with_sign true) (prints_size places (suc units) small).reads)

-- what is printed is read again as the same number
pub exact_of-printed : (places : ℕ) (units : ℤ) → unsigned_abs units < 10 ^ 64 → exact_of places (printed places units) ≡ Ok units
exact_of-printed places units small = (unsigned-printed places units small).1

-- ---- nothing shorter

value-exact_of : (places : ℕ) (text : List ℕ) (units : ℤ) → exact_of places text ≡ Ok units → IsValue places text units
value-exact_of places text units read = elim (reads_as places text) [
  | no_decimal form exact ↦ let clash : Err Format ≡ Ok units = sym exact ∙ read in cc
  | no_units form none exact ↦ let clash : Err TooFine ≡ Ok units = sym exact ∙ read in cc
  | some_units other value exact ↦ let both : Ok other ≡ Ok units = sym exact ∙ read in let same : other ≡ units = cc in subst (IsValue places text) same value
]

-- the size of a text's number by its parts
size_of_value : (places : ℕ) (text : List ℕ) (units : ℤ) → IsValue places text units →
    signed (is_negative text) (number_of (whole_of (unsigned_of text) ++ kept_of places (fraction_of (unsigned_of text)))) ≡ units
size_of_value places text units value =
    let past = past-from_value places text units value in
    IsValue-unique places text (signed (is_negative text) (number_of (whole_of (unsigned_of text) ++ kept_of places (fraction_of (unsigned_of text))))) units
    (IsValue-kept places text value.decimal past) value

-- how long a text is, by its parts
length_by_parts : (size : List ℕ) → length (whole_of size) ≤ length size
length_by_parts size = omega (arith, length-take (position_or_len is_point size) size)

length_with_point : (size : List ℕ) → 0 < length (fraction_of size) → length (whole_of size) + 1 + length (fraction_of size) ≤ length size
length_with_point size some = omega (arith, some, length-take (position_or_len is_point size) size, length-drop (position_or_len is_point size + 1) size)

length_unsigned : (text : List ℕ) → is_negative text ≡ true → length text ≡ 1 + length (unsigned_of text)
length_unsigned [] minus = cc
length_unsigned (byte ∷ rest) minus = rw minus (omega arith)

length_unsigned_le : (text : List ℕ) → length (unsigned_of text) ≤ length text
length_unsigned_le [] = omega arith
length_unsigned_le (byte ∷ rest) = elim (byte == 45) as (λ minus. length (if minus then rest else byte ∷ rest) ≤ suc (length rest)) [ true ↦ omega arith | false ↦ omega arith ]

-- a size is no longer printed than in any text with a digit before its point
size_text-least : (places size : ℕ) (other : List ℕ) → size < 10 ^ 64 → is_size other ≡ true → 0 < length (whole_of other) →
    number_of (whole_of other ++ kept_of places (fraction_of other)) ≡ size → length (size_text places size) ≤ length other
size_text-least places size other small form some is =
    let digits = are_digits-from_parts (whole_of other) (fraction_of other) form in
    let below = kept_below places (fraction_of other) digits.1 in
    let parts : number_of (whole_of other) * 10 ^ places + number_of (kept_of places (fraction_of other)) ≡ size =
    sym (fold_kept (number_of (whole_of other)) places (fraction_of other)) ∙ sym (fold-append with_digit 0 (whole_of other) (kept_of places (fraction_of other))) ∙ is in
    let quotient : size / 10 ^ places ≡ number_of (whole_of other) =
    ap (λ n. n / 10 ^ places) (sym parts) ∙ div-mul-add (number_of (whole_of other)) (10 ^ places) (number_of (kept_of places (fraction_of other))) below in
    let rest : size % 10 ^ places ≡ number_of (kept_of places (fraction_of other)) =
    ap (λ n. n % 10 ^ places) (sym parts) ∙ mod-mul-add (number_of (whole_of other)) (10 ^ places) (number_of (kept_of places (fraction_of other))) below in
    let whole_below : size / 10 ^ places < 10 ^ length (whole_of other) = rw quotient (number_of_below (whole_of other) digits.0) in
    let whole = length-decimal-le_wide (length (whole_of other)) (size / 10 ^ places) some whole_below (quotient_small size places small) in
    let fraction : length (fraction_digits places (size % 10 ^ places)) ≤ length (fraction_of other) =
    rw rest (fraction-least places (fraction_of other) digits.1) in
    omega (
      arith,
      length-append (decimal (size / 10 ^ places)) (behind_point (fraction_digits places (size % 10 ^ places))),
      joined (fraction_digits places (size % 10 ^ places)) (decimal (size / 10 ^ places)) other whole fraction,
    )
  where
    joined : (fraction whole : List ℕ) (other : List ℕ) → length whole ≤ length (whole_of other) → length fraction ≤ length (fraction_of other) →
        length whole + length (behind_point fraction) ≤ length other
    joined [] whole other fits fits' = omega (arith, fits, length_by_parts other)
    joined (digit ∷ fraction) whole other fits fits' = omega (arith, fits, fits', length_with_point other (omega (arith, fits')))

printed-least : (places : ℕ) (units : ℤ) (other : List ℕ) → unsigned_abs units < 10 ^ 64 → IsValue places other units → 0 < length (whole_of (unsigned_of other)) →
    length (printed places units) ≤ length other
unfolding printed
printed-least places (pos size) other small value some =
    let size_is : number_of (whole_of (unsigned_of other) ++ kept_of places (fraction_of (unsigned_of other))) ≡ size =
    sym (unsigned_abs-signed (is_negative other) _) ∙ ap unsigned_abs (size_of_value places other (pos size) value) in
    let least = size_text-least places size (unsigned_of other) small value.decimal some size_is in
    omega (arith, least, length_unsigned_le other)
printed-least places (negsuc size) other small value some =
    let signed_is = size_of_value places other (negsuc size) value in
    let size_is : number_of (whole_of (unsigned_of other) ++ kept_of places (fraction_of (unsigned_of other))) ≡ suc size =
    sym (unsigned_abs-signed (is_negative other) _) ∙ ap unsigned_abs signed_is in
    let minus : is_negative other ≡ true = negative_from_signed (is_negative other) _ size signed_is in
    let least = size_text-least places (suc size) (unsigned_of other) small value.decimal some size_is in
    let goal : suc (length (size_text places (suc size))) ≤ length other = omega (arith, least, length_unsigned other minus) in goal
  where
    negative_from_signed : (negative : Bool) (number size : ℕ) → signed negative number ≡ negsuc size → negative ≡ true
    negative_from_signed true number size is = refl
    negative_from_signed false number size is = cc

-- a printed whole number has no point
no_point_size : (places size : ℕ) → size < 10 ^ 64 → fraction_digits places (size % 10 ^ places) ≡ [] → list_any is_point (size_text places size) ≡ false
no_point_size places size small none =
    rw (none, append-nil) (no_point_in_digits (decimal (size / 10 ^ places)) (decimal_form (size / 10 ^ places) (quotient_small size places small)).0)

no_point-printed : (places : ℕ) (units : ℤ) → unsigned_abs units < 10 ^ 64 →
    fraction_digits places (unsigned_abs units % 10 ^ places) ≡ [] → list_any is_point (printed places units) ≡ false
unfolding printed
no_point-printed places (pos size) small none = no_point_size places size small none
no_point-printed places (negsuc size) small none = no_point_size places (suc size) small none

-- what is printed is the shortest text of its number
pub printed_is_shortest : (places : ℕ) (units : ℤ) → unsigned_abs units < 10 ^ 64 → IsShortest places units (printed places units)
printed_is_shortest places units small =
    let text = unsigned-printed places units small in
    let size = prints_size places (unsigned_abs units) small in
    let rest : unsigned_abs units % 10 ^ places < 10 ^ places = mod_below (unsigned_abs units) (10 ^ places) (ten_pos places) in
    let fraction : fraction_of (unsigned_of (printed places units)) ≡ fraction_digits places (unsigned_abs units % 10 ^ places) = ap fraction_of text.0 ∙ size.fraction in
    let whole : whole_of (unsigned_of (printed places units)) ≡ decimal (unsigned_abs units / 10 ^ places) = ap whole_of text.0 ∙ size.whole in
    record {
      value = value-exact_of places (printed places units) units text.1;
      whole = subst (λ w. 0 < length w) (sym whole) (decimal_form (unsigned_abs units / 10 ^ places) (quotient_small (unsigned_abs units) places small)).2;
      last = subst (λ f. f ≢ [] → last_of f ≢ 48) (sym fraction) (fraction_ends places (unsigned_abs units % 10 ^ places) rest).1;
      no_point = λ none. no_point-printed places units small (sym fraction ∙ none);
      least = λ other value some. printed-least places units other small value some;
    }

-- a quantity and a price that are printed are read again
pub qty_of-printed : (units : ℕ) → units < 10 ^ 16 → qty_of (printed 6 (pos units)) ≡ Ok units
unfolding qty_of
qty_of-printed units small =
    let test : nat_lt units (10 ^ 16) ≡ true = lt-ltb units (10 ^ 16) small in
    ap (within qty_units) (exact_of-printed 6 (pos units) (omega (arith, small))) ∙ rw test refl

pub price_of-printed : (units : ℤ) → unsigned_abs units < 10 ^ 16 → price_of (printed 8 units) ≡ Ok units
unfolding price_of
price_of-printed units small =
    let test : nat_lt (unsigned_abs units) (10 ^ 16) ≡ true = lt-ltb (unsigned_abs units) (10 ^ 16) small in
    ap (within price_units) (exact_of-printed 8 units (omega (arith, small))) ∙ rw test refl
