use Rattle.std.proofs.Common.{◌≡◌, drop}
use Rattle.blot_types.specs.Refusals.{first_of, other_holder}
use Rattle.blot_command.proofs.refusal.exec_taken.Given as goal

abbrev pub invariant-loop-key : goal.invariant-loop-key
invariant-loop-key l = first_of (other_holder l.chains.list l.allocs.list l.reference) (drop l.key-index l.execs) ≡ first_of (other_holder l.chains.list l.allocs.list l.reference) l.execs
