use Rattle.std.proofs.Common.{◌≡◌, ◌*◌, ◌^◌, pos, ◌≤ℤ◌, take}
use Rattle.blot_types.specs.Refusals.{booked}
use Rattle.blot_types.proofs.allocation.booked.Given as goal

abbrev pub invariant-loop-line : goal.invariant-loop-line
invariant-loop-line l = record { sum : l.sum ≡ booked (take l.line-index l.lines); low : pos 0 ≤ℤ l.sum; high : l.sum ≤ℤ pos (10 ^ 16 * l.line-index) }
