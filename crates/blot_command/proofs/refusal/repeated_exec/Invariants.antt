use Rattle.std.proofs.Common.{◌≡◌, [], take, drop}
use Rattle.blot_types.specs.Refusals.{repeated_in}
use Rattle.blot_command.proofs.refusal.repeated_exec.Given as goal

abbrev pub invariant-loop-index : goal.invariant-loop-index
invariant-loop-index l = repeated_in l.chains.list (take l.index l.execs) (drop l.index l.execs) ≡ repeated_in l.chains.list [] l.execs
