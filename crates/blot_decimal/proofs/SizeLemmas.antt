-- The digits of a size, their number, and the zeros that fill up the places.
use Rattle.std.proofs.Common.{◌≡◌, ℕ, zero, suc, ◌-◌, ◌*◌, ◌^◌, ◌<◌, ◌≤◌, min, true, false, ◌&&◌, Ok, Err, List, [], ◌∷◌, ◌++◌, length, take, drop, replicate, refl, sym, ap, ◌∙◌, arith, fold, mul_right_comm, mul_assoc, pow-suc, lt-ltb, le-ltb}
use Rattle.std.proofs.lemmas.List.{take_min, drop_min}
use Rattle.std.proofs.lemmas.Grind.{fold-append}
use Rattle.std.proofs.lemmas.Bool.{and_parts, and_from}
use Rattle.blot_decimal.specs.declared.fault.DecimalFault.TheVariants.{Format, TooFine, TooLarge}
use Rattle.blot_decimal.specs.Text.{with_digit, number_of, are_digits, are_zeros, are_parts, whole_of, fraction_of, is_size}
use Rattle.blot_decimal.specs.Meaning.{kept_of, size_of, limited}

-- one more digit: to stop at a limit before it or after it is the same
min-with_digit : (number digit limit : ℕ) → min (with_digit (min number limit) digit) limit ≡ min (with_digit number digit) limit
min-with_digit number digit limit = omega arith

-- a run of digits: to stop at a limit before it or after it is the same
pub min-fold_with_digit : (limit number : ℕ) (digits : List ℕ) → min (fold with_digit (min number limit) digits) limit ≡ min (fold with_digit number digits) limit
min-fold_with_digit limit number [] = omega arith
min-fold_with_digit limit number (digit ∷ digits) =
    sym (min-fold_with_digit limit (with_digit (min number limit) digit) digits)
    ∙ ap (λ n. min (fold with_digit n digits) limit) (min-with_digit number digit limit)
    ∙ min-fold_with_digit limit (with_digit number digit) digits

-- no fraction at all is kept as zeros
pub kept_of-nil : (places : ℕ) → kept_of places [] ≡ replicate places 48
kept_of-nil zero = refl
kept_of-nil (suc places) = ap (λ rest. 48 ∷ rest) (kept_of-nil places)

-- a fraction that fits its places is kept whole, with zeros after it
pub kept_of_short : (places : ℕ) (fraction : List ℕ) → length fraction ≤ places → kept_of places fraction ≡ fraction ++ replicate (places - length fraction) 48
kept_of_short places [] fits = kept_of-nil places ∙ ap (λ n. replicate n 48) (omega arith)
kept_of_short zero (digit ∷ fraction) fits = absurd (omega arith)
kept_of_short (suc places) (digit ∷ fraction) fits =
    ap (λ rest. digit ∷ rest) (kept_of_short places fraction (omega arith) ∙ ap (λ n. fraction ++ replicate n 48) (omega arith))

-- what stands past the places isn't kept
kept_of-take : (places : ℕ) (fraction : List ℕ) → kept_of places (take places fraction) ≡ kept_of places fraction
kept_of-take zero fraction = refl
kept_of-take (suc places) [] = refl
kept_of-take (suc places) (digit ∷ fraction) = ap (λ rest. digit ∷ rest) (kept_of-take places fraction)

pub kept_of-take_min : (places : ℕ) (fraction : List ℕ) → kept_of places (take (min (length fraction) places) fraction) ≡ kept_of places fraction
kept_of-take_min places fraction =
    ap (λ n. kept_of places (take n fraction)) (let e : min (length fraction) places ≡ min places (length fraction) = omega arith in e)
    ∙ ap (kept_of places) (take_min places fraction) ∙ kept_of-take places fraction

-- zeros after a number
fold-zeros : (number count : ℕ) → fold with_digit number (replicate count 48) ≡ number * 10 ^ count
fold-zeros number zero = omega arith
fold-zeros number (suc count) =
    let digit : with_digit number 48 ≡ number * 10 = omega arith in
    fold-zeros (with_digit number 48) count ∙ ap (λ n. n * 10 ^ count) digit ∙ mul_right_comm number 10 (10 ^ count) ∙ mul_assoc number (10 ^ count) 10
    ∙ ap (λ power. number * power) (sym (pow-suc 10 count))

-- zeros are digits
pub are_digits-replicate : (count : ℕ) → are_digits (replicate count 48) ≡ true
are_digits-replicate zero = refl
are_digits-replicate (suc count) = are_digits-replicate count

-- the digits before the point and those after it, read one after another up to a limit, and the zeros
pub units_by_parts : (limit places : ℕ) (whole kept : List ℕ) → length kept ≤ places →
    min (min (fold with_digit (min (number_of whole) limit) kept) limit * 10 ^ (places - length kept)) limit
    ≡ min (number_of (whole ++ kept_of places kept)) limit
units_by_parts limit places whole kept fits =
    let zeros : List ℕ = replicate (places - length kept) 48 in
    ap (λ n. min n limit) (sym (fold-zeros (min (fold with_digit (min (number_of whole) limit) kept) limit) (places - length kept)))
    ∙ min-fold_with_digit limit (fold with_digit (min (number_of whole) limit) kept) zeros
    ∙ ap (λ n. min n limit) (sym (fold-append with_digit (min (number_of whole) limit) kept zeros))
    ∙ min-fold_with_digit limit (number_of whole) (kept ++ zeros)
    ∙ ap (λ n. min n limit) (sym (fold-append with_digit 0 whole (kept ++ zeros)))
    ∙ ap (λ rest. min (number_of (whole ++ rest)) limit) (sym (kept_of_short places kept fits))

-- the parts of a size are digits
pub are_digits-from_parts : (whole fraction : List ℕ) → are_parts whole fraction ≡ true → (are_digits whole ≡ true) × (are_digits fraction ≡ true)
unfolding are_parts
are_digits-from_parts whole fraction form =
    let parts = and_parts (are_digits whole && are_digits fraction) _ form in and_parts _ _ parts.0

-- the first digits of digits
pub are_digits-take : (count : ℕ) (digits : List ℕ) → are_digits digits ≡ true → are_digits (take count digits) ≡ true
are_digits-take zero digits form = refl
are_digits-take (suc count) [] form = refl
are_digits-take (suc count) (digit ∷ digits) form =
    let parts = and_parts _ _ form in and_from _ _ parts.0 (are_digits-take count digits parts.1)

-- a text that is no size
pub size_of-format : (places : ℕ) (size : List ℕ) → is_size size ≡ false → size_of places size ≡ Err Format
unfolding size_of
size_of-format places size form = rw form refl

-- a size with a digit past its places that isn't zero
pub size_of-too_fine : (places : ℕ) (size : List ℕ) → is_size size ≡ true → are_zeros (drop places (fraction_of size)) ≡ false → size_of places size ≡ Err TooFine
unfolding size_of
size_of-too_fine places size form past = rw (form, past) refl

-- any other size
pub size_of-units : (places : ℕ) (size : List ℕ) → is_size size ≡ true → are_zeros (drop places (fraction_of size)) ≡ true → size_of places size ≡ Ok (number_of (whole_of size ++ kept_of places (fraction_of size)))
unfolding size_of
size_of-units places size form past = rw (form, past) refl

-- below 10^16, and from there on
pub limited_small : (units : ℕ) → units < 10 ^ 16 → limited (Ok units) ≡ Ok units
limited_small units small = rw (lt-ltb units (10 ^ 16) small) refl

pub limited_large : (units : ℕ) → 10 ^ 16 ≤ units → limited (Ok units) ≡ Err TooLarge
limited_large units large = rw (le-ltb units (10 ^ 16) large) refl

-- what stands past the places, where the list may be shorter
pub drop-min_turned : (places : ℕ) (digits : List ℕ) → drop (min (length digits) places) digits ≡ drop places digits
drop-min_turned places digits =
    ap (λ n. drop n digits) (let e : min (length digits) places ≡ min places (length digits) = omega arith in e)
    ∙ drop_min places digits
