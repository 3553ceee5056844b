use Rattle.std.proofs.Common.{◌≡◌, length}
use Rattle.blot_types.specs.Chains.{taker_in}
use Rattle.blot_types.specs.Survivors.{links_of}
use Rattle.blot_model.proofs.chains.number_of.Given as goal

abbrev pub invariant-loop-entry : goal.invariant-loop-entry
invariant-loop-entry l = taker_in (links_of l.rest) l.key ≡ taker_in (links_of l.list) l.key

abbrev pub decreases-loop-entry : goal.decreases-loop-entry
decreases-loop-entry l = length l.rest
