use Rattle.std.proofs.Common.{◌≡◌, length}
use Rattle.blot_types.specs.Chains.{bust_in}
use Rattle.blot_types.specs.Survivors.{links_of}
use Rattle.blot_model.proofs.chains.bust_of.Given as goal

abbrev pub invariant-loop-entry : goal.invariant-loop-entry
invariant-loop-entry l = bust_in (links_of l.rest) l.root ≡ bust_in (links_of l.list) l.root

abbrev pub decreases-loop-entry : goal.decreases-loop-entry
decreases-loop-entry l = length l.rest
