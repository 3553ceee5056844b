use Rattle.std.proofs.Common.{◌≡◌, take}
use Rattle.blot_types.specs.Legal.{without, up_to}
use Rattle.blot_model.proofs.withdrawal.without_up_to.Given as goal

abbrev pub invariant-loop-entry : goal.invariant-loop-entry
invariant-loop-entry l = l.rest.items ≡ without l.withdrawn (up_to l.number (take l.entry-index l.list))
