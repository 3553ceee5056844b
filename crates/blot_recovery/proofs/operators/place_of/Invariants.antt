use Rattle.std.proofs.Common.{◌≡◌, false, take}
use Rattle.std.specs.List.{list_any}
use Rattle.blot_types.specs.Keys.{same_text}
use Rattle.blot_recovery.specs.Parties.{operator_names}
use Rattle.blot_recovery.proofs.operators.place_of.Given as goal

abbrev pub invariant-loop-at : goal.invariant-loop-at
invariant-loop-at g l = list_any (same_text l.fn.name) (take l.at (operator_names l.fn.operators)) ≡ false
