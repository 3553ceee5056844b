-- What is printed is read again as the same number, and nothing shorter is.
use Rattle.std.proofs.Common.{◌≡◌, ℕ, zero, suc, ◌+◌, ◌-◌, ◌/◌, ◌%◌, ◌^◌, ◌<◌, ◌≤◌, ◌==◌, ℤ, pos, negsuc, int_lt, false, if◌then◌else◌, [], ◌∷◌, refl, arith, lit<, eq-eqb, ne_eqb, le-ltb}
use Rattle.std.proofs.lemmas.Nat.{div_below, mod_below}
use Rattle.std.proofs.Math.Nat.{pow-le-pow_right}
use Rattle.blot_decimal.specs.Printed.{fraction_digits, behind_point, sign_text}
use Rattle.blot_decimal.proofs.ValueLemmas.{ten_more, ten_pos}

-- a rest of 0 has no digits
pub fraction_digits-zero : (places rest : ℕ) → rest ≡ 0 → fraction_digits places rest ≡ []
unfolding fraction_digits
fraction_digits-zero zero rest none = refl
fraction_digits-zero (suc places) rest none = rw (eq-eqb rest 0 none) refl

-- another rest has a first digit, and the digits of what is left
pub fraction_digits-more : (places rest : ℕ) → 0 < places → 0 < rest →
    fraction_digits places rest ≡ (48 + rest / 10 ^ (places - 1)) ∷ fraction_digits (places - 1) (rest % 10 ^ (places - 1))
unfolding fraction_digits
fraction_digits-more zero rest above more = absurd (omega arith)
fraction_digits-more (suc places) rest above more =
    let test : (rest == 0) ≡ false = ne_eqb rest 0 (λ none. omega arith) in
    let less : suc places - 1 ≡ places = omega arith in
    rw (test, less) refl

-- with a point before them
pub behind_point-more : (places rest : ℕ) → 0 < places → 0 < rest →
    behind_point (fraction_digits places rest) ≡ 46 ∷ fraction_digits places rest
behind_point-more places rest above more = rw (fraction_digits-more places rest above more) refl

-- the first digit is one
pub first_digit_below : (places rest : ℕ) → 0 < places → rest < 10 ^ places → rest / 10 ^ (places - 1) < 10
first_digit_below zero rest above below = absurd (omega arith)
first_digit_below (suc places) rest above below =
    let less : suc places - 1 ≡ places = omega arith in
    let power = ten_more places in
    rw less (div_below rest (10 ^ places) 10 (ten_pos places) (omega (arith, power, below)))

-- only a rest of 0 has no places
pub places_above : (places rest : ℕ) → rest < 10 ^ places → 0 < rest → 0 < places
places_above zero rest below more = absurd (omega arith)
places_above (suc places) rest below more = omega arith

-- a sign, by a test
pub sign_text_by_test : (units : ℤ) → (if int_lt units (pos 0) then 45 ∷ [] else []) ≡ sign_text units
sign_text_by_test (pos units) = rw (le-ltb units 0 (omega arith)) refl
sign_text_by_test (negsuc units) = refl

-- powers of ten up to 10^14 fit
pub ten_fits : (places : ℕ) → places ≤ 14 → 10 ^ places < 2 ^ 64
ten_fits places small =
    let most : 10 ^ places ≤ 10 ^ 14 = pow-le-pow_right (omega arith) small in
    let top : 10 ^ 14 < 2 ^ 64 = lit< tt in omega (arith, most, top)

-- for `grind`: what a digit is split off by
pub ruleset digit_steps = (first_digit_below, ten_pos, ten_fits, mod_below)

-- for `grind`: which digits are written
pub ruleset written_digits = (fraction_digits-zero, fraction_digits-more, behind_point-more, places_above)

-- for `grind`: what a number is written by
pub ruleset written_units = (sign_text_by_test, ten_pos, ten_fits, mod_below)
