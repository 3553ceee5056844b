use Rattle.blot_types.specs.Chains.{root_in}
use Rattle.blot_types.specs.Survivors.{links_of}
use Rattle.blot_model.proofs.ListLemmas.{Found}
use Rattle.blot_model.proofs.instructions.roots_of_terms.Given as goal

abbrev pub invariant-loop-key : goal.invariant-loop-key
invariant-loop-key l = Found (root_in (links_of l.earlier)) l.key-items l.key-index l.roots.items
