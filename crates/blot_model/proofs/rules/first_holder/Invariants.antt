use Rattle.std.proofs.Common.{◌≡◌, drop}
use Rattle.blot_types.specs.Refusals.{first_of, other_holder}
use Rattle.blot_types.specs.Survivors.{links_of}
use Rattle.blot_model.proofs.rules.first_holder.Given as goal

abbrev pub invariant-loop-key : goal.invariant-loop-key
invariant-loop-key l =
    first_of (other_holder (links_of l.list) l.instructions l.reference) (drop l.key-index l.keys) ≡ first_of (other_holder (links_of l.list) l.instructions l.reference) l.keys
