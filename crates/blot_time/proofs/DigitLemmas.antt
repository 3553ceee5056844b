-- Padded numbers are digits, and read as the numbers that they were made of.
use Rattle.std.proofs.Common.{◌≡◌, ℕ, ◌+◌, ◌%◌, ◌<◌, true, arith}
use Rattle.std.specs.Char.{is_ascii_digit}
use Rattle.blot_time.specs.Digits.{number, padded}

pub digit_fits : (n : ℕ) → is_ascii_digit (48 + n % 10) ≡ true
digit_fits n = grind arith

pub number-two : (n : ℕ) → n < 100 → number (padded 2 n) ≡ n
number-two n h = omega arith

pub number-three : (n : ℕ) → n < 1000 → number (padded 3 n) ≡ n
number-three n h = omega arith

pub number-four : (n : ℕ) → n < 10000 → number (padded 4 n) ≡ n
number-four n h = omega arith
