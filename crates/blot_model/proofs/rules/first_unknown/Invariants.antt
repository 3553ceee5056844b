use Rattle.std.proofs.Common.{◌≡◌, drop, find, is_none}
use Rattle.blot_types.specs.Chains.{root_in}
use Rattle.blot_types.specs.Survivors.{links_of}
use Rattle.blot_model.proofs.rules.first_unknown.Given as goal

abbrev pub invariant-loop-key : goal.invariant-loop-key
invariant-loop-key l = find (λ key. is_none (root_in (links_of l.list) key)) (drop l.key-index l.keys) ≡ find (λ key. is_none (root_in (links_of l.list) key)) l.keys
