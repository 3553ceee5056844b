use Rattle.std.proofs.Common.{◌≡◌, length}
use Rattle.blot_types.specs.Chains.{current_in}
use Rattle.blot_types.specs.Survivors.{links_of}
use Rattle.blot_model.proofs.chains.current.Given as goal

abbrev pub invariant-loop-entry : goal.invariant-loop-entry
invariant-loop-entry l = current_in (links_of l.rest) l.root ≡ current_in (links_of l.list) l.root

abbrev pub decreases-loop-entry : goal.decreases-loop-entry
decreases-loop-entry l = length l.rest
