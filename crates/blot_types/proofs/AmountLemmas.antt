-- How large a quantity times a price is.
use Rattle.std.proofs.Common.{ℕ, ◌*◌, ◌^◌, ◌<◌, ◌≤◌, ℤ, pos, neg_ℤ, ◌*ℤ◌, unsigned_abs, arith}
use Rattle.std.proofs.lemmas.Int.{unsigned_abs-mul}
use Rattle.std.proofs.lemmas.Nat.{mul-le}
use Rattle.blot_types.proofs.PartLemmas.{neg-size}

-- at most the quantity times the most that a price comes to in size
pub small_value : (qty : ℕ) (price : ℤ) → unsigned_abs price < 10 ^ 16 → unsigned_abs (pos qty *ℤ price) ≤ unsigned_abs (pos qty) * 10 ^ 16
small_value qty price bound = rw (unsigned_abs-mul (pos qty) price) (mul-le qty (unsigned_abs price) qty (10 ^ 16) (omega arith) (omega (arith, bound)))

pub small_value_neg : (qty : ℕ) (price : ℤ) → unsigned_abs price < 10 ^ 16 → unsigned_abs (neg_ℤ (pos qty *ℤ price)) ≤ unsigned_abs (neg_ℤ (pos qty)) * 10 ^ 16
small_value_neg qty price bound = rw (neg-size (pos qty *ℤ price), neg-size (pos qty)) (small_value qty price bound)
