use Rattle.std.proofs.Common.{◌≡◌, ◌≤◌, length, take}
use Rattle.blot_order.specs.FillNumbers.{numbers_put}
use Rattle.blot_order.proofs.fill_numbers.end_of_put.Given as goal

abbrev pub invariant-loop-end : goal.invariant-loop-end
invariant-loop-end l = (l.end ≤ length l.listed) × (numbers_put (take l.end l.listed) ≡ numbers_put l.listed)

abbrev pub decreases-loop-end : goal.decreases-loop-end
decreases-loop-end l = l.end
