use Rattle.std.proofs.Common.{◌≡◌, false, take}
use Rattle.std.specs.List.{list_any}
use Rattle.blot_types.specs.Keys.{same_text}
use Rattle.blot_recovery.specs.Taking.{names_of}
use Rattle.blot_recovery.proofs.taking.place_of.Given as goal

abbrev pub invariant-loop-at : goal.invariant-loop-at
invariant-loop-at g l = list_any (same_text l.fn.name) (take l.at (names_of l.fn.peers)) ≡ false
