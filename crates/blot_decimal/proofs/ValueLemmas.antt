-- A text read as units of 10^-places is exactly what its digits write, and nothing else is.
use Rattle.std.proofs.Common.{◌≡◌, ℕ, zero, suc, ◌+◌, ◌-◌, ◌*◌, ◌^◌, ◌<◌, ◌==◌, true, List, [], ◌∷◌, length, drop, refl, ap, ◌∙◌, arith, rules, fold, pow-suc, eq-eqb, eqb-true}
use Rattle.std.proofs.lemmas.Nat.{same_from_place}
use Rattle.std.proofs.lemmas.Bool.{and_parts, and_from}
use Rattle.std.proofs.lemmas.Str.Parse.{IsNumeralModel, numerals_by_fold, digits_value_short}
use Rattle.std.specs.Char.{is_ascii_digit}
use Rattle.blot_decimal.specs.Text.{with_digit, number_of, are_digits, are_zeros}
use Rattle.blot_decimal.specs.Meaning.{kept_of}

-- the digits and their number are those of std
pub own : IsNumeralModel (λ digits. are_digits digits ≡ true) number_of
own = numerals_by_fold _ (search rules) (fold with_digit) (search rules)

-- ten to a power, for the power's next step
pub ten_more : (k : ℕ) → 10 ^ suc k ≡ 10 ^ k * 10
ten_more k = pow-suc 10 k

pub ten_pos : (k : ℕ) → 0 < 10 ^ k
ten_pos zero = omega arith
ten_pos (suc k) = omega (arith, ten_more k, ten_pos k)

-- a place more: the steps of the lemmas below, over plain numbers
place_more : (number digit power power' rest both alone : ℕ) → power' ≡ power * 10 →
    both ≡ (number * 10 + digit) * power + rest → alone ≡ (0 * 10 + digit) * power + rest → both ≡ number * power' + alone
place_more number digit power power' rest both alone more e f = rw more (omega (arith, e, f))

scale_both : (x y a b a' b' : ℕ) → a' ≡ a * 10 → b' ≡ b * 10 → x * a ≡ y * b → x * a' ≡ y * b'
scale_both x y a b a' b' more more' same = rw (more, more') (omega (arith, same))

unscale_both : (x y a b a' b' : ℕ) → a' ≡ a * 10 → b' ≡ b * 10 → x * a' ≡ y * b' → x * a ≡ y * b
unscale_both x y a b a' b' more more' same =
    let wide : x * (a * 10) ≡ y * (b * 10) = rw (← more, ← more') same in omega (arith, wide)

-- a number followed by digits: its own part moves up by as many places
pub fold_digits : (number : ℕ) (digits : List ℕ) → fold with_digit number digits ≡ number * 10 ^ length digits + number_of digits
fold_digits number [] = omega arith
fold_digits number (digit ∷ digits) =
    place_more number (digit - 48) (10 ^ length digits) (10 ^ suc (length digits)) (number_of digits) (fold with_digit (with_digit number digit) digits)
    (fold with_digit (with_digit 0 digit) digits) (ten_more (length digits)) (fold_digits (with_digit number digit) digits) (fold_digits (with_digit 0 digit) digits)

-- digits write a number below ten to their count
pub number_of_below : (digits : List ℕ) → are_digits digits ≡ true → number_of digits < 10 ^ length digits
number_of_below digits form = digits_value_short own digits (length digits) form (omega arith)

-- zeros add nothing but places
pub fold_zeros : (number : ℕ) (zeros : List ℕ) → are_zeros zeros ≡ true → fold with_digit number zeros ≡ number * 10 ^ length zeros
fold_zeros number [] form = omega arith
fold_zeros number (byte ∷ zeros) form =
    let parts = and_parts (byte == 48) (are_zeros zeros) form in
    let zero_byte : with_digit number byte ≡ number * 10 = omega (arith, eqb-true byte 48 parts.0) in
    let at_zero : fold with_digit (with_digit number byte) zeros ≡ number * 10 * 10 ^ length zeros =
    fold_zeros (with_digit number byte) zeros parts.1 ∙ ap (λ n. n * 10 ^ length zeros) zero_byte in
    let goal : fold with_digit (with_digit number byte) zeros ≡ number * 10 ^ suc (length zeros) = rw (ten_more (length zeros)) (omega (arith, at_zero)) in goal

-- a sum that is 0, of a product with a power
factor_is_zero : (number power rest : ℕ) → 0 < power → number * power + rest ≡ 0 → number ≡ 0
factor_is_zero zero power rest pos none = refl
factor_is_zero (suc number) power rest pos none = absurd (omega (arith, none, pos))

is_zero_byte : (digit : ℕ) → is_ascii_digit digit ≡ true → with_digit 0 digit ≡ 0 → digit ≡ 48
is_zero_byte digit form none = search (rules, none)

-- digits that write 0 are zeros
pub are_zeros_from_zero : (digits : List ℕ) → are_digits digits ≡ true → number_of digits ≡ 0 → are_zeros digits ≡ true
are_zeros_from_zero [] form none = refl
are_zeros_from_zero (digit ∷ digits) form none =
    let parts = and_parts _ _ form in
    let whole : fold with_digit (with_digit 0 digit) digits ≡ with_digit 0 digit * 10 ^ length digits + number_of digits = fold_digits (with_digit 0 digit) digits in
    let none' : fold with_digit (with_digit 0 digit) digits ≡ 0 = none in
    let low = is_zero_byte digit parts.0 (factor_is_zero (with_digit 0 digit) (10 ^ length digits) (number_of digits) (ten_pos (length digits)) (omega (arith, whole, none'))) in
    and_from _ _ (eq-eqb digit 48 low) (are_zeros_from_zero digits parts.1 (omega (arith, whole, none')))

are_zeros_of_nothing : (places : ℕ) → are_zeros (drop {A = ℕ} places []) ≡ true
are_zeros_of_nothing zero = refl
are_zeros_of_nothing (suc places) = refl

-- the kept digits, where no other digit is past them, are exactly the fraction
pub kept_is_exact : (places number : ℕ) (fraction : List ℕ) → are_zeros (drop places fraction) ≡ true →
    fold with_digit number (kept_of places fraction) * 10 ^ length fraction ≡ fold with_digit number fraction * 10 ^ places
kept_is_exact zero number fraction past = omega (arith, fold_zeros number fraction past)
kept_is_exact (suc places) number [] past =
    let rest = kept_is_exact places (number * 10 + (48 - 48)) [] (are_zeros_of_nothing places) in
    let goal : fold with_digit (number * 10 + (48 - 48)) (kept_of places []) * 1 ≡ number * 10 ^ suc places =
    rw (ten_more places) (omega (arith, rest)) in goal
kept_is_exact (suc places) number (digit ∷ fraction) past =
    scale_both (fold with_digit (with_digit number digit) (kept_of places fraction)) (fold with_digit (with_digit number digit) fraction)
    (10 ^ length fraction) (10 ^ places) (10 ^ suc (length fraction)) (10 ^ suc places) (ten_more (length fraction)) (ten_more places)
    (kept_is_exact places (with_digit number digit) fraction past)

-- no number of units is exactly a fraction with another digit past its places
pub exact_is_kept : (places number units : ℕ) (fraction : List ℕ) → are_digits fraction ≡ true →
    units * 10 ^ length fraction ≡ fold with_digit number fraction * 10 ^ places → are_zeros (drop places fraction) ≡ true
exact_is_kept zero number units fraction form exact =
    let whole = fold_digits number fraction in
    let parts = same_from_place number (number_of fraction) units 0 (10 ^ length fraction) (number_of_below fraction form) (ten_pos (length fraction)) (omega (arith, whole, exact)) in
    are_zeros_from_zero fraction form parts.1
exact_is_kept (suc places) number units [] form exact = refl
exact_is_kept (suc places) number units (digit ∷ fraction) form exact =
    exact_is_kept places (with_digit number digit) units fraction (and_parts _ _ form).1
    (unscale_both units (fold with_digit (with_digit number digit) fraction) (10 ^ length fraction) (10 ^ places)
    (10 ^ suc (length fraction)) (10 ^ suc places) (ten_more (length fraction)) (ten_more places) exact)
