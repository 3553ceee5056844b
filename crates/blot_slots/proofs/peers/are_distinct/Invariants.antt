use Rattle.std.proofs.Common.{◌↔◌, drop}
use Rattle.std.specs.List.{IsDistinct}
use Rattle.blot_types.specs.Keys.{same_text}
use Rattle.blot_slots.proofs.peers.are_distinct.Given as goal

abbrev pub invariant-loop-index : goal.invariant-loop-index
invariant-loop-index l = IsDistinct same_text l.peers ↔ IsDistinct same_text (drop l.index l.peers)
