use Rattle.std.proofs.Common.{◌≡◌, take, true}
use Rattle.blot_types.specs.Legal.{is_legal}
use Rattle.blot_model.proofs.refusals.legal.Given as goal

abbrev pub invariant-loop-index : goal.invariant-loop-index
invariant-loop-index l = is_legal (take l.index l.list) ≡ true
