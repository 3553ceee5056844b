use Rattle.std.proofs.Common.{◌≡◌, drop}
use Rattle.blot_gateway.specs.Serving.{close_in}
use Rattle.blot_gateway.proofs.writing.close_in.Given as goal

abbrev pub invariant-loop-action : goal.invariant-loop-action
invariant-loop-action l = close_in (drop l.action-index l.actions) ≡ close_in l.actions
