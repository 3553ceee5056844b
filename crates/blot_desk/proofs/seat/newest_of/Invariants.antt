use Rattle.std.proofs.Common.{◌≡◌, ◌-◌, drop, length}
use Rattle.blot_desk.specs.Receipts.{newest_of}
use Rattle.blot_desk.proofs.seat.newest_of.Given as goal

abbrev pub invariant-loop-behind : goal.invariant-loop-behind
invariant-loop-behind l = l.newest ≡ newest_of (drop (length l.receipts - l.behind) l.receipts)
