use Rattle.std.proofs.Common.{◌≡◌, drop, find, is_none}
use Rattle.blot_types.specs.Chains.{root_in}
use Rattle.blot_command.proofs.refusal.unknown_exec.Given as goal

abbrev pub invariant-loop-key : goal.invariant-loop-key
invariant-loop-key l = find (λ key. is_none (root_in l.chains.list key)) (drop l.key-index l.execs) ≡ find (λ key. is_none (root_in l.chains.list key)) l.execs
