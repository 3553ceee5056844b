-- What a number of few digits says.
use Rattle.std.proofs.Common.{◌≡◌, ℕ, ◌-◌, ◌^◌, ◌<◌, ◌≤◌, Bool, true, false, List, length, min, Some, refl, arith, lit≤, ◌&&◌, nat_le, le-leb}
use Rattle.std.proofs.Math.Nat.{pow-le-pow_right}
use Rattle.blot_decimal.specs.Text.{are_digits, number_of}
use Rattle.blot_decimal.proofs.ValueLemmas.{number_of_below}
use Rattle.blot_console.specs.declared.digits.TheConstants.{DIGITS_MAX}
use Rattle.blot_console.specs.Forms.{is_number, number_form}

and_right : (a b : Bool) → (a && b) ≡ true → b ≡ true
and_right true b is = is
and_right false b is = absurd cc

-- a number of at most nine digits is small
small : (word : List ℕ) → is_number word ≡ true → length word ≤ DIGITS_MAX → number_of word < 10 ^ 9
small word number short =
    omega (arith, number_of_below word (and_right (nat_le 1 (length word)) (are_digits word) number), pow-le-pow_right {n = 10} (lit≤ tt) short)

-- so a machine keeps it whole
pub number_form-small : (word : List ℕ) (kept : ℕ) → is_number word ≡ true → length word ≤ DIGITS_MAX → kept ≡ min (number_of word) (2 ^ 64 - 1) → Some kept ≡ number_form word
unfolding number_form
number_form-small word kept number short keeps =
    let below = small word number short in
    let same : kept ≡ number_of word = omega (arith, keeps) in
    rw (number, le-leb (length word) DIGITS_MAX short, same) refl
