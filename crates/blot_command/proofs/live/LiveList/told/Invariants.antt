use Rattle.std.proofs.Common.{◌≡◌, ◌≤◌, ◌++◌, drop, length, map}
use Rattle.blot_command.specs.Slots.{entries_in}
use Rattle.blot_command.specs.Standings.{Told, told_in}
use Rattle.blot_command.proofs.live.LiveList.told.Given as goal

abbrev pub invariant-loop-slot : goal.invariant-loop-slot
invariant-loop-slot l = record {
  told : map (λ (one : Told). one.entry) l.told.items ++ entries_in (drop l.slot-index l.slot-items) ≡ entries_in l.slot-items;
  each : l.told.items ≡ map (λ (one : Told). told_in (entries_in l.slot-items) one.entry) l.told.items;
  few : length l.told.items ≤ l.slot-index;
}
