use Rattle.std.proofs.Common.{◌≡◌, length}
use Rattle.blot_types.specs.Survivors.{root_of}
use Rattle.blot_model.proofs.chains.root_of.Given as goal

abbrev pub invariant-loop-entry : goal.invariant-loop-entry
invariant-loop-entry l = root_of l.rest l.sought ≡ root_of l.list l.key

abbrev pub decreases-loop-entry : goal.decreases-loop-entry
decreases-loop-entry l = length l.rest
