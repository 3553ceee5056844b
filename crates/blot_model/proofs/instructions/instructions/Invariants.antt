use Rattle.std.proofs.Common.{◌≡◌, ◌++◌, length}
use Rattle.blot_types.specs.Allocations.{instructions_of}
use Rattle.blot_model.proofs.instructions.instructions.Given as goal

abbrev pub invariant-loop-entry : goal.invariant-loop-entry
invariant-loop-entry l = l.instructions.items ++ instructions_of l.rest ≡ instructions_of l.list

abbrev pub decreases-loop-entry : goal.decreases-loop-entry
decreases-loop-entry l = length l.rest
