use Rattle.std.proofs.Common.{◌≡◌, ◌≤◌, ◌++◌, drop, length}
use Rattle.blot_command.specs.Slots.{entries_in}
use Rattle.blot_command.proofs.live.LiveList.entries.Given as goal

abbrev pub invariant-loop-slot : goal.invariant-loop-slot
invariant-loop-slot l = record {
  copied : l.copies.items ++ entries_in (drop l.slot-index l.slot-items) ≡ entries_in l.slot-items;
  few : length l.copies.items ≤ l.slot-index;
}
