use Rattle.std.proofs.Common.{◌≡◌, drop}
use Rattle.blot_types.specs.Refusals.{first_of, bust_of_key}
use Rattle.blot_types.specs.Survivors.{links_of}
use Rattle.blot_model.proofs.rules.first_bust.Given as goal

abbrev pub invariant-loop-key : goal.invariant-loop-key
invariant-loop-key l = first_of (bust_of_key (links_of l.list)) (drop l.key-index l.keys) ≡ first_of (bust_of_key (links_of l.list)) l.keys
