use Rattle.std.proofs.Common.{◌≡◌, take}
use Rattle.blot_slots.specs.Slots.{fresh_slots}
use Rattle.blot_slots.proofs.table.fresh_slots.Given as goal

abbrev pub invariant-loop-peer : goal.invariant-loop-peer
invariant-loop-peer l = l.slots.entries ≡ fresh_slots l.own (take l.peer-index l.peers)
