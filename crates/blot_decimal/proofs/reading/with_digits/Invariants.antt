use Rattle.std.proofs.Common.{◌≡◌, ◌^◌, min, take, fold}
use Rattle.blot_decimal.specs.Text.{with_digit}
use Rattle.blot_decimal.proofs.reading.with_digits.Given as goal

abbrev pub invariant-loop-digit : goal.invariant-loop-digit
invariant-loop-digit l = l.value ≡ min (fold with_digit l.fn.number (take l.digit-index l.digits)) (10 ^ 16)
