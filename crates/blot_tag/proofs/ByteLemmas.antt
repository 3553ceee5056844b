-- Numbers that digits write.
use Rattle.std.proofs.Common.{◌≡◌, ℕ, ◌+◌, ◌*◌, ◌-◌, ◌^◌, ◌<◌, ◌≤◌, true, List, [], ◌∷◌, length, fold, lit≤, arith, mul-le-mul_right, pow-suc}
use Rattle.std.specs.Char.{is_ascii_digit}
use Rattle.std.specs.List.{list_all}
use Rattle.std.proofs.Math.Nat.{pow-le-pow_right}
use Rattle.std.proofs.lemmas.Bool.Decides.{nat_tests}
use Rattle.blot_tag.specs.Bytes.{is_number, with_digit, number_of}

widen : (start digit power value : ℕ) → digit ≤ 9 → value < (start * 10 + digit + 1) * power → value < (start + 1) * (power * 10)
widen start digit power value low below =
    omega (arith, mul-le-mul_right {m = start * 10 + digit + 1} {n = (start + 1) * 10} power (omega arith))

fold-lt : (digits : List ℕ) (start : ℕ) → list_all is_ascii_digit digits ≡ true → fold with_digit start digits < (start + 1) * 10 ^ length digits
fold-lt [] start all = omega arith
fold-lt (digit ∷ digits) start all =
    let low : digit ≤ 57 = grind (arith, nat_tests) in
    let later = fold-lt digits (with_digit start digit) (grind (arith, nat_tests)) in
    rw (pow-suc 10 (length digits)) (widen start (digit - 48) (10 ^ length digits) _ (omega arith) later)

-- a number of at most k digits is below 10^k
pub number_of-lt : (digits : List ℕ) (k : ℕ) → is_number digits ≡ true → length digits ≤ k → number_of digits < 10 ^ k
number_of-lt digits k number short =
    omega (arith, fold-lt digits 0 (grind (arith, nat_tests)), pow-le-pow_right {n = 10} (lit≤ tt) short)

pub tag_number-lt : (bytes : List ℕ) → is_number bytes ≡ true → length bytes ≤ 9 → number_of bytes < 1000000000
tag_number-lt bytes number short = number_of-lt bytes 9 number short
