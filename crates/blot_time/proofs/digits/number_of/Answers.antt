use Rattle.std.proofs.Common.{◌^◌, ◌≤◌, arith, lit<}
use Rattle.std.proofs.Math.Nat.{pow-le-pow_right}
use Rattle.blot_time.proofs.digits.number_of.Goals as goal

pub overflow_mul-value : goal.overflow_mul-value
overflow_mul-value c =
    let early : c.loop-digit.digit-index ≤ 8 = omega arith in
    let small : 10 ^ c.loop-digit.digit-index ≤ 10 ^ 8 = pow-le-pow_right (lit< tt) early in
    omega arith

pub overflow_add-value : goal.overflow_add-value
overflow_add-value c =
    let early : c.loop-digit.digit-index ≤ 8 = omega arith in
    let small : 10 ^ c.loop-digit.digit-index ≤ 10 ^ 8 = pow-le-pow_right (lit< tt) early in
    omega arith
