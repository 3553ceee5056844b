-- Sums that stay within an `i128`.
use Rattle.std.specs.Prelude.{◌^◌, ℤ, pos, neg_ℤ, ◌≤ℤ◌, ◌<ℤ◌}

-- a sum fits in the 128 bits of an `i128`
abbrev pub FitsSum : ℤ → Type 0
FitsSum amount = (neg_ℤ (pos (2 ^ 127)) ≤ℤ amount) × (amount <ℤ pos (2 ^ 127))
