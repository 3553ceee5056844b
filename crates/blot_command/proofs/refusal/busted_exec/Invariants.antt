use Rattle.std.proofs.Common.{◌≡◌, drop}
use Rattle.blot_types.specs.Refusals.{first_of, bust_of_key}
use Rattle.blot_command.proofs.refusal.busted_exec.Given as goal

abbrev pub invariant-loop-key : goal.invariant-loop-key
invariant-loop-key l = first_of (bust_of_key l.chains.list) (drop l.key-index l.execs) ≡ first_of (bust_of_key l.chains.list) l.execs
