use Rattle.std.proofs.Common.{◌≡◌, ◌≤◌, ◌++◌, drop, length, map}
use Rattle.blot_command.specs.Slots.{entries_in}
use Rattle.blot_command.specs.Standings.{standing_in}
use Rattle.blot_command.proofs.standing.standings_in.Given as goal

abbrev pub invariant-loop-slot : goal.invariant-loop-slot
invariant-loop-slot l = record {
  told : l.standings.items ++ map (standing_in l.chains.list l.allocs.list) (entries_in (drop l.slot-index l.slots))
      ≡ map (standing_in l.chains.list l.allocs.list) (entries_in l.slots);
  few : length l.standings.items ≤ l.slot-index;
}
