-- Leading and trailing zeros change nothing.
use Rattle.std.proofs.Common.{◌≡◌, ℕ, zero, suc, ◌+◌, Bool, true, false, ◌&&◌, ◌==◌, nat_lt, if◌then◌else◌, List, [], ◌∷◌, ◌++◌, length, drop, replicate, refl, sym, ap, ◌∙◌, arith, inl, inr, length-append, eqb-true, lt-ltb, ltb-true}
use Rattle.std.specs.List.{list_any, position_or_len}
use Rattle.std.specs.Char.{is_ascii_digit}
use Rattle.std.proofs.lemmas.Bool.{cases_Bool, and_parts, and_from, or_parts}
use Rattle.std.proofs.lemmas.List.Folds.{list_all-append}
use Rattle.blot_decimal.specs.Text.{is_negative, unsigned_of, is_point, number_of, are_digits, are_zeros, are_parts, whole_of, fraction_of, is_size, is_decimal, with_leading_zeros, with_trailing_zeros}
use Rattle.blot_decimal.specs.Meaning.{kept_of, size_of, with_sign, exact_of}
use Rattle.blot_decimal.proofs.SizeLemmas.{are_digits-replicate}

-- a size is what its form, its digits past the places and its kept digits make it
size_of-same : (places : ℕ) (size other : List ℕ) → is_size size ≡ is_size other →
    are_zeros (drop places (fraction_of size)) ≡ are_zeros (drop places (fraction_of other)) →
    number_of (whole_of size ++ kept_of places (fraction_of size)) ≡ number_of (whole_of other ++ kept_of places (fraction_of other)) →
    size_of places size ≡ size_of places other
unfolding size_of
size_of-same places size other form past units = cc

-- the parts of a text whose first byte is no point
pub whole_of-cons : (byte : ℕ) (rest : List ℕ) → is_point byte ≡ false → whole_of (byte ∷ rest) ≡ byte ∷ whole_of rest
whole_of-cons byte rest other =
    rw other (let more : 1 + position_or_len is_point rest ≡ suc (position_or_len is_point rest) = omega arith in rw more refl)

pub fraction_of-cons : (byte : ℕ) (rest : List ℕ) → is_point byte ≡ false → fraction_of (byte ∷ rest) ≡ fraction_of rest
fraction_of-cons byte rest other =
    rw other (let more : 1 + position_or_len is_point rest + 1 ≡ suc (position_or_len is_point rest + 1) = omega arith in rw more refl)

-- and those of a text that begins with a point
pub whole_of_point : (byte : ℕ) (rest : List ℕ) → is_point byte ≡ true → whole_of (byte ∷ rest) ≡ []
whole_of_point byte rest point = rw point refl

pub fraction_of_point : (byte : ℕ) (rest : List ℕ) → is_point byte ≡ true → fraction_of (byte ∷ rest) ≡ rest
fraction_of_point byte rest point = rw point refl

-- one zero in front
are_parts_zero : (whole fraction : List ℕ) → are_parts whole fraction ≡ true → are_parts (48 ∷ whole) fraction ≡ true
unfolding are_parts
are_parts_zero whole fraction form =
    let parts = and_parts (are_digits whole && are_digits fraction) (nat_lt 0 (length whole + length fraction)) form in
    and_from _ _ parts.0 (lt-ltb 0 (suc (length whole) + length fraction) (omega arith))

is_size_zero : (size : List ℕ) → is_size size ≡ true → is_size (48 ∷ size) ≡ true
is_size_zero size form =
    let whole = whole_of-cons 48 size refl in
    let fraction = fraction_of-cons 48 size refl in
    let parts = are_parts_zero (whole_of size) (fraction_of size) form in cc

size_of_zero : (places : ℕ) (size : List ℕ) → is_size size ≡ true → size_of places (48 ∷ size) ≡ size_of places size
size_of_zero places size form =
    let whole = whole_of-cons 48 size refl in
    let fraction = fraction_of-cons 48 size refl in
    size_of-same places (48 ∷ size) size (is_size_zero size form ∙ sym form) (ap (λ f. are_zeros (drop places f)) fraction)
    (let same : number_of ((48 ∷ whole_of size) ++ kept_of places (fraction_of size)) ≡ number_of (whole_of size ++ kept_of places (fraction_of size)) = refl in cc)

-- zeros in front of a size
leading-size : (count places : ℕ) (size : List ℕ) → is_size size ≡ true →
    (is_size (replicate count 48 ++ size) ≡ true) × (size_of places (replicate count 48 ++ size) ≡ size_of places size)
leading-size zero places size form = (form, refl)
leading-size (suc count) places size form =
    let rest = leading-size count places size form in
    (is_size_zero (replicate count 48 ++ size) rest.0, size_of_zero places (replicate count 48 ++ size) rest.0 ∙ rest.1)

leading-cons : (count places byte : ℕ) (rest : List ℕ) (minus : Bool) → (byte == 45) ≡ minus → is_decimal (byte ∷ rest) ≡ true →
    exact_of places (with_leading_zeros count (byte ∷ rest)) ≡ exact_of places (byte ∷ rest)
leading-cons count places byte rest true minus form =
    let size : is_size rest ≡ true = rw minus at form in
    rw minus (ap (with_sign true) (leading-size count places rest size).1)
leading-cons zero places byte rest false minus form =
    let same : with_leading_zeros 0 (byte ∷ rest) ≡ byte ∷ rest = rw minus refl in ap (exact_of places) same
leading-cons (suc count) places byte rest false minus form =
    let size : is_size (byte ∷ rest) ≡ true = rw minus at form in
    rw minus (ap (with_sign false) (leading-size (suc count) places (byte ∷ rest) size).1)

-- zeros in front of a decimal
pub leading_zeros : (count places : ℕ) (text : List ℕ) → is_decimal text ≡ true → exact_of places (with_leading_zeros count text) ≡ exact_of places text
unfolding are_parts
leading_zeros count places [] form = cc
leading_zeros count places (byte ∷ rest) form = leading-cons count places byte rest (byte == 45) refl form

-- zeros after a fraction
are_zeros-append : (places count : ℕ) (fraction : List ℕ) → are_zeros (drop places (fraction ++ replicate count 48)) ≡ are_zeros (drop places fraction)
are_zeros-append zero zero [] = refl
are_zeros-append zero (suc count) [] = are_zeros-append zero count []
are_zeros-append (suc places) zero [] = refl
are_zeros-append (suc places) (suc count) [] = are_zeros-append places count [] ∙ nothing places
  where
    nothing : (places : ℕ) → are_zeros (drop {A = ℕ} places []) ≡ true
    nothing zero = refl
    nothing (suc places) = refl
are_zeros-append zero count (digit ∷ fraction) = ap (λ rest. (digit == 48) && rest) (are_zeros-append zero count fraction)
are_zeros-append (suc places) count (digit ∷ fraction) = are_zeros-append places count fraction

kept_of-append : (places count : ℕ) (fraction : List ℕ) → kept_of places (fraction ++ replicate count 48) ≡ kept_of places fraction
kept_of-append zero count fraction = refl
kept_of-append (suc places) zero [] = refl
kept_of-append (suc places) (suc count) [] = ap (λ rest. 48 ∷ rest) (kept_of-append places count [])
kept_of-append (suc places) count (digit ∷ fraction) = ap (λ rest. digit ∷ rest) (kept_of-append places count fraction)

are_parts-append : (count : ℕ) (whole fraction : List ℕ) → are_parts whole fraction ≡ true → are_parts whole (fraction ++ replicate count 48) ≡ true
unfolding are_parts
are_parts-append count whole fraction form =
    let parts = and_parts (are_digits whole && are_digits fraction) (nat_lt 0 (length whole + length fraction)) form in
    let digits = and_parts (are_digits whole) (are_digits fraction) parts.0 in
    let joined : are_digits (fraction ++ replicate count 48) ≡ true =
    list_all-append is_ascii_digit fraction (replicate count 48) ∙ and_from _ _ digits.1 (are_digits-replicate count) in
    and_from _ _ (and_from _ _ digits.0 joined)
    (lt-ltb 0 (length whole + length (fraction ++ replicate count 48)) (omega (arith, ltb-true 0 (length whole + length fraction) parts.1, length-append fraction (replicate count 48))))

-- a size with zeros after its fraction
trailing-size : (count places : ℕ) (size other : List ℕ) → is_size size ≡ true →
    whole_of other ≡ whole_of size → fraction_of other ≡ fraction_of size ++ replicate count 48 → size_of places other ≡ size_of places size
trailing-size count places size other form whole fraction =
    let parts = are_parts-append count (whole_of size) (fraction_of size) form in
    let past = are_zeros-append places count (fraction_of size) in
    let kept = kept_of-append places count (fraction_of size) in
    size_of-same places other size (cc) (cc) (cc)

-- the parts of a text with a point, and more after it
with_point : (size tail : List ℕ) → list_any is_point size ≡ true → (whole_of (size ++ tail) ≡ whole_of size) × (fraction_of (size ++ tail) ≡ fraction_of size ++ tail)
with_point [] tail point = absurd (cc)
with_point (byte ∷ size) tail point = elim (cases_Bool (is_point byte)) [
  | inl here ↦ (
    whole_of_point byte (size ++ tail) here ∙ sym (whole_of_point byte size here),
    fraction_of_point byte (size ++ tail) here ∙ ap (λ f. f ++ tail) (sym (fraction_of_point byte size here)),
  )
  | inr other ↦
      let more : list_any is_point size ≡ true = rw other at point in
      let rest = with_point size tail more in (
        whole_of-cons byte (size ++ tail) other ∙ ap (λ w. byte ∷ w) rest.0 ∙ sym (whole_of-cons byte size other),
        fraction_of-cons byte (size ++ tail) other ∙ rest.1 ∙ ap (λ f. f ++ tail) (sym (fraction_of-cons byte size other)),
      )
]

-- the parts of a text with no point, and of it with a point and more after it
pub without_point : (size tail : List ℕ) → list_any is_point size ≡ false →
    (whole_of (size ++ 46 ∷ tail) ≡ size) × (fraction_of (size ++ 46 ∷ tail) ≡ tail) × (whole_of size ≡ size) × (fraction_of size ≡ [])
without_point [] tail none = (refl, refl, refl, refl)
without_point (byte ∷ size) tail none =
    let parts = or_parts (is_point byte) (list_any is_point size) none in
    let rest = without_point size tail parts.1 in (
      whole_of-cons byte (size ++ 46 ∷ tail) parts.0 ∙ ap (λ w. byte ∷ w) rest.0,
      fraction_of-cons byte (size ++ 46 ∷ tail) parts.0 ∙ rest.1,
      whole_of-cons byte size parts.0 ∙ ap (λ w. byte ∷ w) rest.2,
      fraction_of-cons byte size parts.0 ∙ rest.3,
    )

unsigned_of-append : (byte : ℕ) (rest tail : List ℕ) → unsigned_of ((byte ∷ rest) ++ tail) ≡ unsigned_of (byte ∷ rest) ++ tail
unsigned_of-append byte rest tail = elim (byte == 45) as (λ minus. (if minus then rest ++ tail else byte ∷ (rest ++ tail)) ≡ (if minus then rest else byte ∷ rest) ++ tail) [
  | true ↦ refl
  | false ↦ refl
]

-- a minus sign is no point
list_any-unsigned : (byte : ℕ) (rest : List ℕ) → list_any is_point (unsigned_of (byte ∷ rest)) ≡ list_any is_point (byte ∷ rest)
list_any-unsigned byte rest = elim (cases_Bool (byte == 45)) [
  | inl minus ↦ let is : byte ≡ 45 = eqb-true byte 45 minus in rw (minus, is) refl
  | inr other ↦ rw other refl
]

trailing-cons : (count places byte : ℕ) (rest : List ℕ) (point : Bool) → list_any is_point (byte ∷ rest) ≡ point → is_decimal (byte ∷ rest) ≡ true →
    size_of places (unsigned_of (byte ∷ rest) ++ (if point then replicate count 48 else 46 ∷ replicate count 48)) ≡ size_of places (unsigned_of (byte ∷ rest))
trailing-cons count places byte rest true point form =
    let size : List ℕ = unsigned_of (byte ∷ rest) in
    let parts = with_point size (replicate count 48) (list_any-unsigned byte rest ∙ point) in
    trailing-size count places size (size ++ replicate count 48) form parts.0 parts.1
trailing-cons count places byte rest false point form =
    let size : List ℕ = unsigned_of (byte ∷ rest) in
    let parts = without_point size (replicate count 48) (list_any-unsigned byte rest ∙ point) in
    trailing-size count places size (size ++ 46 ∷ replicate count 48) form (parts.0 ∙ sym parts.2) (parts.1 ∙ ap (λ f. f ++ replicate count 48) (sym parts.3))

-- zeros after a decimal
pub trailing_zeros : (count places : ℕ) (text : List ℕ) → is_decimal text ≡ true → exact_of places (with_trailing_zeros count text) ≡ exact_of places text
unfolding are_parts
trailing_zeros count places [] form = cc
trailing_zeros count places (byte ∷ rest) form =
    ap (λ size. with_sign (is_negative (byte ∷ rest)) (size_of places size)) (unsigned_of-append byte rest (if list_any is_point (byte ∷ rest) then replicate count 48 else 46 ∷ replicate count 48))
    ∙ ap (with_sign (is_negative (byte ∷ rest))) (trailing-cons count places byte rest (list_any is_point (byte ∷ rest)) refl form)
