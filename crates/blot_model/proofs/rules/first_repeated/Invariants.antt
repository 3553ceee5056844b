use Rattle.std.proofs.Common.{◌≡◌, [], take, drop}
use Rattle.blot_types.specs.Refusals.{repeated_in}
use Rattle.blot_types.specs.Survivors.{links_of}
use Rattle.blot_model.proofs.rules.first_repeated.Given as goal

abbrev pub invariant-loop-index : goal.invariant-loop-index
invariant-loop-index l = repeated_in (links_of l.list) (take l.index l.keys) (drop l.index l.keys) ≡ repeated_in (links_of l.list) [] l.keys
