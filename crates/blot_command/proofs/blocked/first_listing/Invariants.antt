use Rattle.std.proofs.Common.{◌≡◌, ◌-◌, ◌^◌}
use Rattle.blot_command.specs.Blocking.{first_listing}
use Rattle.blot_command.specs.Slots.{entries_in}
use Rattle.blot_command.proofs.blocked.first_listing.Given as goal

abbrev pub invariant-loop-next : goal.invariant-loop-next
invariant-loop-next l =
    first_listing (entries_in l.slots) l.key l.root l.until l.above l.allocs.list
    ≡ first_listing (entries_in l.slots) l.key l.root l.until l.number l.allocs.list

abbrev pub decreases-loop-next : goal.decreases-loop-next
decreases-loop-next l = 2 ^ 64 - l.above
