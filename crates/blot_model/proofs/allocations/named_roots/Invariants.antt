use Rattle.std.proofs.Common.{◌≡◌, take, filter, flat_map}
use Rattle.blot_types.specs.Instructions.{is_live_in}
use Rattle.blot_model.proofs.allocations.named_roots.Given as goal

abbrev pub invariant-loop-instruction : goal.invariant-loop-instruction
invariant-loop-instruction l = l.roots.items ≡ flat_map (λ instruction. instruction.roots) (filter (is_live_in l.instruction-items) (take l.instruction-index l.instruction-items))
